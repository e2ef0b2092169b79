-- Bytes that are put among pieces of memory.
use Rattle.std.proofs.Common.{◌≡◌, ℕ, zero, suc, ◌<◌, ◌≤◌, List, [], ◌∷◌, ◌++◌, Vec, Global, length, take, drop, set, get_or, map, inl, inr, refl, ap, sym, ◌∙◌, subst, arith, length-append, length-drop, get_or-set_other, get_or-set_same, length-set}
use Rattle.std.proofs.lemmas.Bool.{cases_eq}
use Rattle.std.proofs.lemmas.List.{take_all, drop_at, take-append-le, drop-append-le}
use Rattle.locked_run.specs.Pieces.{bytes_at, LiesIn, StayIn}

pub stay_same : (pieces : List (List ℕ)) → StayIn pieces pieces
stay_same pieces = record { lies = λ spot l. l; same = λ spot l. refl }

pub stay_both : (old mid new : List (List ℕ)) → StayIn old mid → StayIn mid new → StayIn old new
stay_both old mid new h k = record { lies = λ spot l. k.lies spot (h.lies spot l); same = λ spot l. k.same spot (h.lies spot l) ∙ h.same spot l }

-- where each piece begins as it did
begins : (old new : List (List ℕ)) → length old ≤ length new → ((k : ℕ) → k < length old → (more : List ℕ) × (get_or new k [] ≡ get_or old k [] ++ more)) → StayIn old new
begins old new long each = record {
  lies = λ spot l.
      let m = each spot.piece l.piece_is in
      let n = ap (λ (t : List ℕ). length t) m.1 in
      let a = length-append (get_or old spot.piece []) m.0 in
      let w = l.within in
      record { piece_is = let p = l.piece_is in omega (arith, p, long); within = omega (arith, n, a, w) };
  same = λ spot l.
      let m = each spot.piece l.piece_is in
      let bytes = get_or old spot.piece [] in
      let w = l.within in
      let d = length-drop spot.start bytes in
      ap (λ (t : List ℕ). take spot.count (drop spot.start t)) m.1
      ∙ ap (take spot.count) (drop-append-le spot.start bytes m.0 (omega (arith, w)))
      ∙ take-append-le spot.count (drop spot.start bytes) m.0 (omega (arith, w, d));
}

got_front : (old : List (List ℕ)) (p : List ℕ) (k : ℕ) → k < length old → get_or (old ++ p ∷ []) k [] ≡ get_or old k []
got_front [] p k lt = absurd (omega (arith, lt))
got_front (x ∷ old) p zero lt = refl
got_front (x ∷ old) p (suc k) lt = got_front old p k (omega (arith, lt))

pub append_none : (xs : List ℕ) → xs ≡ xs ++ []
append_none [] = refl
append_none (x ∷ xs) = ap (λ (t : List ℕ). x ∷ t) (append_none xs)

-- one piece more
pub stay_push : (old : List (List ℕ)) (p : List ℕ) → StayIn old (old ++ p ∷ [])
stay_push old p = let n = length-append old (p ∷ []) in begins old (old ++ p ∷ []) (omega (arith, n)) (λ k lt. ([], got_front old p k lt ∙ append_none (get_or old k [])))

-- more behind one piece
pub stay_append : (old : List (List ℕ)) (at : ℕ) (more : List ℕ) → at < length old → StayIn old (set old at (get_or old at [] ++ more))
stay_append old at more inside =
    let new = set old at (get_or old at [] ++ more) in
    let n = length-set old at (get_or old at [] ++ more) in
    begins old new (omega (arith, n)) (λ k lt. elim (cases_eq k at) [
      | inl same ↦ (more, ap (λ (j : ℕ). get_or new j []) same ∙ get_or-set_same old at (get_or old at [] ++ more) [] inside ∙ ap (λ (j : ℕ). get_or old j [] ++ more) (sym same))
      | inr ne ↦ ([], get_or-set_other old at k (get_or old at [] ++ more) [] ne ∙ append_none (get_or old k []))
    ])

-- they lie there
pub end_lies : (old : List (List ℕ)) (at : ℕ) (more : List ℕ) → at < length old → LiesIn (set old at (get_or old at [] ++ more)) (record { piece = at; start = length (get_or old at []); count = length more })
end_lies old at more inside =
    let bytes = get_or old at [] ++ more in
    let here : get_or (set old at bytes) at [] ≡ bytes = get_or-set_same old at bytes [] inside in
    let n = length-set old at bytes in
    let m = ap (λ (t : List ℕ). length t) here in
    let a = length-append (get_or old at []) more in
    record { piece_is = omega (arith, n, inside); within = omega (arith, m, a) }

pub end_bytes : (old : List (List ℕ)) (at : ℕ) (more : List ℕ) → at < length old → bytes_at (set old at (get_or old at [] ++ more)) (record { piece = at; start = length (get_or old at []); count = length more }) ≡ more
end_bytes old at more inside =
    let bytes = get_or old at [] ++ more in
    ap (λ (t : List ℕ). take (length more) (drop (length (get_or old at [])) t)) (get_or-set_same old at bytes [] inside)
    ∙ ap (take (length more)) (drop_at (get_or old at []) more (length (get_or old at [])) refl)
    ∙ take_all (length more) more (omega arith)

-- ---- pieces that are kept as vectors

pub map_set : {A B : Type 0} (f : A → B) (xs : List A) (k : ℕ) (y : A) → map f (set xs k y) ≡ set (map f xs) k (f y)
map_set f [] k y = refl
map_set f (x ∷ xs) zero y = refl
map_set {B = B} f (x ∷ xs) (suc k) y = ap (λ (t : List B). f x ∷ t) (map_set f xs k y)

pub map_got : {A B : Type 0} (f : A → B) (xs : List A) (k : ℕ) (d : A) (e : B) → k < length xs → get_or (map f xs) k e ≡ f (get_or xs k d)
map_got f [] k d e lt = absurd (omega (arith, lt))
map_got f (x ∷ xs) zero d e lt = refl
map_got f (x ∷ xs) (suc k) d e lt = map_got f xs k d e (omega (arith, lt))

pub map_long : {A B : Type 0} (f : A → B) (xs : List A) → length (map f xs) ≡ length xs
map_long f [] = refl
map_long f (x ∷ xs) = ap suc (map_long f xs)

-- one of them, which held this, holds that
pub record Replaced (old : List (List ℕ)) (vs : List (Vec ℕ Global)) (at : ℕ) (was : Vec ℕ Global) : Type 0 where
  pub inside : at < length old
  pub held : get_or old at [] ≡ was.items
  pub after : (v : Vec ℕ Global) → map (λ (u : Vec ℕ Global). u.items) (set vs at v) ≡ set old at v.items

pub replaced : (old : List (List ℕ)) (vs : List (Vec ℕ Global)) (at : ℕ) (was : Vec ℕ Global) → map (λ (u : Vec ℕ Global). u.items) vs ≡ old → at < length old → was ≡ get_or vs at was → Replaced old vs at was
replaced old vs at was view inside is =
    let f : Vec ℕ Global → List ℕ = λ u. u.items in
    let n = map_long f vs in
    let m = ap (λ (t : List (List ℕ)). length t) view in
    record {
      inside = inside;
      held = ap (λ (t : List (List ℕ)). get_or t at []) (sym view) ∙ map_got f vs at was [] (omega (arith, n, m, inside)) ∙ ap f (sym is);
      after = λ v. map_set f vs at v ∙ ap (λ (t : List (List ℕ)). set t at v.items) view;
    }

pub stay_extended : (old : List (List ℕ)) (vs : List (Vec ℕ Global)) (at : ℕ) (was now : Vec ℕ Global) (more : List ℕ) → Replaced old vs at was → now.items ≡ was.items ++ more → StayIn old (map (λ (u : Vec ℕ Global). u.items) (set vs at now))
stay_extended old vs at was now more r is =
    subst (StayIn old) (sym (r.after now ∙ ap (set old at) (is ∙ ap (λ (t : List ℕ). t ++ more) (sym r.held)))) (stay_append old at more r.inside)

pub lies_extended : (old : List (List ℕ)) (vs : List (Vec ℕ Global)) (at start : ℕ) (was now : Vec ℕ Global) (more : List ℕ) → Replaced old vs at was → now.items ≡ was.items ++ more → start ≡ length was.items → LiesIn (map (λ (u : Vec ℕ Global). u.items) (set vs at now)) (record { piece = at; start = start; count = length more })
lies_extended old vs at start was now more r is begin =
    subst (λ (t : List (List ℕ)). LiesIn t (record { piece = at; start = start; count = length more })) (sym (r.after now ∙ ap (set old at) (is ∙ ap (λ (t : List ℕ). t ++ more) (sym r.held))))
    (subst (λ (n : ℕ). LiesIn (set old at (get_or old at [] ++ more)) (record { piece = at; start = n; count = length more })) (sym (begin ∙ ap (λ (t : List ℕ). length t) (sym r.held))) (end_lies old at more r.inside))

pub bytes_extended : (old : List (List ℕ)) (vs : List (Vec ℕ Global)) (at start : ℕ) (was now : Vec ℕ Global) (more : List ℕ) → Replaced old vs at was → now.items ≡ was.items ++ more → start ≡ length was.items → bytes_at (map (λ (u : Vec ℕ Global). u.items) (set vs at now)) (record { piece = at; start = start; count = length more }) ≡ more
bytes_extended old vs at start was now more r is begin =
    ap (λ (t : List (List ℕ)). bytes_at t (record { piece = at; start = start; count = length more })) (r.after now ∙ ap (set old at) (is ∙ ap (λ (t : List ℕ). t ++ more) (sym r.held)))
    ∙ ap (λ (n : ℕ). bytes_at (set old at (get_or old at [] ++ more)) (record { piece = at; start = n; count = length more })) (begin ∙ ap (λ (t : List ℕ). length t) (sym r.held))
    ∙ end_bytes old at more r.inside
