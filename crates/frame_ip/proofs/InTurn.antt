-- Lists of words that are written in turn, as an edit of a frame writes them.
use Rattle.std.proofs.Common.{◌≡◌, ℕ, List, [], ◌∷◌, ◌++◌, ap, sym, ◌∙◌}
use Rattle.frame_ip.specs.Writes.{Write, put, put_all}
use Rattle.frame_ip.proofs.Writing.{put_more}

-- of IPv4: a word among them, and one at last
pub four_in_turn : (f0 f1 f2 f3 f4 f5 f6 f7 f8 f9 : List ℕ) (m0 m1 t a2 a3 p5 p6 : List Write) (c d : Write)
    → f1 ≡ put_all m0 f0 → f2 ≡ put_all m1 f1 → f3 ≡ put_all t f2 → f4 ≡ put c f3 → f5 ≡ put_all a2 f4 → f6 ≡ put_all a3 f5 → f7 ≡ put_all p5 f6 → f8 ≡ put_all p6 f7 → f9 ≡ put d f8
    → f9 ≡ put_all ((m0 ++ m1) ++ (t ++ (c ∷ ((a2 ++ a3) ++ ((p5 ++ p6) ++ (d ∷ [])))))) f0
four_in_turn f0 f1 f2 f3 f4 f5 f6 f7 f8 f9 m0 m1 t a2 a3 p5 p6 c d e1 e2 e3 e4 e5 e6 e7 e8 e9 =
    let last : List Write = d ∷ [] in
    let ports : List Write = (p5 ++ p6) ++ last in
    let g6 : f9 ≡ put_all ports f6 = e9 ∙ ap (put_all last) (e8 ∙ ap (put_all p6) e7 ∙ sym (put_more p5 p6 f6)) ∙ sym (put_more (p5 ++ p6) last f6) in
    let rest : List Write = (a2 ++ a3) ++ ports in
    let g4 : f9 ≡ put_all rest f4 = g6 ∙ ap (put_all ports) (e6 ∙ ap (put_all a3) e5 ∙ sym (put_more a2 a3 f4)) ∙ sym (put_more (a2 ++ a3) ports f4) in
    let g2 : f9 ≡ put_all (t ++ (c ∷ rest)) f2 = g4 ∙ ap (put_all rest) e4 ∙ ap (put_all (c ∷ rest)) e3 ∙ sym (put_more t (c ∷ rest) f2) in
    g2 ∙ ap (put_all (t ++ (c ∷ rest))) (e2 ∙ ap (put_all m1) e1 ∙ sym (put_more m0 m1 f0)) ∙ sym (put_more (m0 ++ m1) (t ++ (c ∷ rest)) f0)

-- of IPv6: a word at last
pub six_in_turn : (f0 f1 f2 f3 f4 f5 f6 f7 f8 : List ℕ) (m0 m1 t a2 a3 p5 p6 : List Write) (d : Write)
    → f1 ≡ put_all m0 f0 → f2 ≡ put_all m1 f1 → f3 ≡ put_all t f2 → f4 ≡ put_all a2 f3 → f5 ≡ put_all a3 f4 → f6 ≡ put_all p5 f5 → f7 ≡ put_all p6 f6 → f8 ≡ put d f7
    → f8 ≡ put_all ((m0 ++ m1) ++ (t ++ ((a2 ++ a3) ++ ((p5 ++ p6) ++ (d ∷ []))))) f0
six_in_turn f0 f1 f2 f3 f4 f5 f6 f7 f8 m0 m1 t a2 a3 p5 p6 d e1 e2 e3 e4 e5 e6 e7 e8 =
    let last : List Write = d ∷ [] in
    let ports : List Write = (p5 ++ p6) ++ last in
    let g5 : f8 ≡ put_all ports f5 = e8 ∙ ap (put_all last) (e7 ∙ ap (put_all p6) e6 ∙ sym (put_more p5 p6 f5)) ∙ sym (put_more (p5 ++ p6) last f5) in
    let rest : List Write = (a2 ++ a3) ++ ports in
    let g3 : f8 ≡ put_all rest f3 = g5 ∙ ap (put_all ports) (e5 ∙ ap (put_all a3) e4 ∙ sym (put_more a2 a3 f3)) ∙ sym (put_more (a2 ++ a3) ports f3) in
    let g2 : f8 ≡ put_all (t ++ rest) f2 = g3 ∙ ap (put_all rest) e3 ∙ sym (put_more t rest f2) in
    g2 ∙ ap (put_all (t ++ rest)) (e2 ∙ ap (put_all m1) e1 ∙ sym (put_more m0 m1 f0)) ∙ sym (put_more (m0 ++ m1) (t ++ rest) f0)
