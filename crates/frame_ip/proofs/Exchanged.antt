-- Sums that were right are right after the words of edits were written, whatever these are.
use Rattle.std.proofs.Common.{◌≡◌, ℕ, ◌+◌, ◌<◌, ◌≤◌, List, [], ◌∷◌, ◌++◌, length, get_or, refl, ap, sym, subst, ◌∙◌, arith}
use Rattle.frame_ip.specs.Bytes.{number_at}
use Rattle.frame_ip.specs.Writes.{Write, put_all}
use Rattle.frame_ip.specs.Checksum.{fold}
use Rattle.frame_ip.specs.Sums.{old_words, new_words, KeepsRight, word_sum, part}
use Rattle.frame_ip.proofs.Writing.{put_more}
use Rattle.frame_ip.proofs.Parts.{double}
use Rattle.frame_ip.proofs.Rising.{Rises, Even, rises_from, rises_to, rises_more, even_more, old_more, new_more, between, others}

-- a sum is what is exchanged, and the rest
kept_right : (f : List ℕ) (ws : List Write) (old new rest before after : ℕ) → KeepsRight f ws old new → 0 < rest → rest + (old_words f ws + old) ≡ before → rest + (new_words ws + new) ≡ after → fold before ≡ 65535 → fold after ≡ 65535
kept_right f ws old new rest before after keeps some was is right =
    subst (λ (n : ℕ). fold n ≡ 65535) is (keeps rest some (subst (λ (n : ℕ). fold n ≡ 65535) (sym was) right))

-- the IP header: words in front of it, a TTL's word, the checksum, addresses' words, and words behind it
pub ip_stays : (f : List ℕ) (n hi new : ℕ) (m t a rest : List Write) → 20 ≤ n → 14 + n ≤ length f → 0 < get_or f 14 0 → Rises 0 14 m → Rises 22 24 t → Even 14 t → Rises 26 34 a → Even 14 a → Rises (14 + n) hi rest
    → KeepsRight f (t ++ a) (number_at f 24 2) new → fold (word_sum (part 14 n f)) ≡ 65535
    → fold (word_sum (part 14 n (put_all rest (put_all (t ++ (record { at = 24; word = new } ∷ a)) (put_all m f))))) ≡ 65535
ip_stays f n hi new m t a rest least long version rm rt et ra ea rr keeps right =
    let w : Write = record { at = 24; word = new } in
    let ws = t ++ (w ∷ a) in
    let past : Rises 24 (14 + n) (w ∷ a) = (omega arith, rises_to 26 34 (14 + n) a (omega arith) ra) in
    let rises : Rises 22 (14 + n) ws = rises_more 22 24 (14 + n) t (w ∷ a) rt past in
    let even : Even 14 ws = even_more 14 t (w ∷ a) et ((5, refl), ea) in
    let sum = between 14 n hi f m ws rest rm (rises_from 14 22 (14 + n) ws (omega arith) rises) even rr long in
    let o = others 14 n f ws 22 (omega arith) rises even long in
    let olds : old_words f ws ≡ old_words f (t ++ a) + number_at f 24 2 = omega (arith, old_more f t (w ∷ a), old_more f t a) in
    let news : new_words ws ≡ new_words (t ++ a) + new = omega (arith, new_more t (w ∷ a), new_more t a) in
    kept_right f (t ++ a) (number_at f 24 2) new o.rest (word_sum (part 14 n f)) (word_sum (part 14 n (put_all rest (put_all ws (put_all m f))))) keeps
    (omega (arith, o.first (omega arith), version)) (omega (arith, o.all, olds)) (omega (arith, o.all, olds, news, sum)) right

-- the pseudo header, whose addresses are m bytes at b, and a segment of n bytes at s: words in front of
-- both, addresses' words, ports' words, and the checksum
pub transport_stays : (f : List ℕ) (b m s n at k new proto : ℕ) (front a p : List Write) → 0 < m → b + m ≤ s → s + n ≤ length f → s + 6 ≤ at → at ≡ s + double k → at + 2 ≤ s + n → 0 < proto
    → Rises 0 b front → Rises b (b + m) a → Even b a → Rises s (s + 4) p → Even s p
    → KeepsRight f (a ++ p) (number_at f at 2) new → fold ((word_sum (part b m f) + (proto + n)) + word_sum (part s n f)) ≡ 65535
    → (g : List ℕ) → g ≡ put_all (p ++ (record { at = at; word = new } ∷ [])) (put_all a (put_all front f)) → fold ((word_sum (part b m g) + (proto + n)) + word_sum (part s n g)) ≡ 65535
transport_stays f b m s n at k new proto front a p wide least long apart even_at holds some rf ra ea rp ep keeps right g is =
    let w : Write = record { at = at; word = new } in
    let last : List Write = w ∷ [] in
    let ws = p ++ last in
    let rises : Rises s (s + n) ws = rises_more s (s + 4) (s + n) p last rp (omega arith, omega arith) in
    let even : Even s ws = even_more s p last ep ((k, even_at), tt) in
    let first : word_sum (part b m g) + old_words f a ≡ word_sum (part b m f) + new_words a =
    subst (λ (h : List ℕ). word_sum (part b m h) + old_words f a ≡ word_sum (part b m f) + new_words a) (sym is)
    (between b m (s + n) f front a ws rf ra ea (rises_from (b + m) s (s + n) ws least rises) (omega arith)) in
    let same : put_all ws (put_all (front ++ a) f) ≡ g = ap (put_all ws) (put_more front a f) ∙ sym is in
    let second : word_sum (part s n g) + old_words f ws ≡ word_sum (part s n f) + new_words ws =
    subst (λ (h : List ℕ). word_sum (part s n h) + old_words f ws ≡ word_sum (part s n f) + new_words ws) same
    (between s n (s + n) f (front ++ a) ws [] (rises_more 0 b s front a rf (rises_to b (b + m) s a least ra)) rises even (omega arith) long) in
    let o = others b m f a b wide ra ea (omega arith) in
    let q = others s n f ws s (omega arith) rises even long in
    let olds : old_words f a + old_words f ws ≡ old_words f (a ++ p) + number_at f at 2 = omega (arith, old_more f a p, old_more f p last) in
    let news : new_words a + new_words ws ≡ new_words (a ++ p) + new = omega (arith, new_more a p, new_more p last) in
    kept_right f (a ++ p) (number_at f at 2) new ((o.rest + q.rest) + (proto + n)) ((word_sum (part b m f) + (proto + n)) + word_sum (part s n f)) ((word_sum (part b m g) + (proto + n)) + word_sum (part s n g)) keeps
    (omega arith) (omega (arith, o.all, q.all, olds)) (omega (arith, o.all, q.all, olds, news, first, second)) right
