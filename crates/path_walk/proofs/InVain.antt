-- Questions whose blocks do nothing: what they say stays untold.
use Rattle.std.proofs.Common.{◌≡◌, ◌<◌, Bool, true, false, ◌&&◌, List, [], ◌∷◌, ◌++◌, length, refl, ap, ap₂, sym, ◌∙◌, subst, inl, inr}
use Rattle.std.specs.List.{flat_map}
use Rattle.std.proofs.lemmas.List.Elements.{Contains-append_left, Contains-append_cases}
use Rattle.nf_base.specs.Text.{Question, Get, Find, Test, FallsOff, Block, End, Ask}
use Rattle.nf_base.specs.Paths.{Branch}
use Rattle.nf_laws.specs.Paths.{of_packet}
use Rattle.path_walk.specs.declared.ways.Asked.{Asked}
use Rattle.path_walk.specs.Tests.{TestText, is_exchanged}
use Rattle.path_walk.specs.Feasible.{equals_of}
use Rattle.path_walk.specs.Trees.{Tree, Free, Tested, text_of, asking}
use Rattle.path_walk.specs.Numbering.{text_at, AreApart}
use Rattle.path_walk.specs.Known.{Marks}
use Rattle.path_walk.specs.Alike.{HaveSame}
use Rattle.path_walk.specs.Alive.{into_first, into_second, those, is_any, AsksInVain, alive_in_vain}
use Rattle.path_walk.specs.Ahead.{one_if, all_ahead, behind_test}
use Rattle.path_walk.proofs.Alike.{same, onward}
use Rattle.path_walk.proofs.Ahead.{asked_of, free_ways_first, free_ways_second, test_ways_first, test_ways_second}
use Rattle.path_walk.proofs.EitherWay.{test_untold}
use Rattle.path_walk.proofs.GoneThrough.{any_ahead, tested_first, tested_second, asks_free, asks_test}

-- whether there is one
pub any_if : (b : Bool) (m : Marks) → is_any (one_if b m) ≡ b
any_if true m = refl
any_if false m = refl

any_more : (xs ys : List Marks) → is_any xs ≡ true → is_any (xs ++ ys) ≡ true
any_more [] ys h = cc
any_more (x ∷ xs) ys h = refl

none_more : (xs ys : List Marks) → is_any xs ≡ false → is_any (xs ++ ys) ≡ is_any ys
none_more [] ys h = refl
none_more (x ∷ xs) ys h = cc

pub any_first : (f : Marks → List Marks) (m : Marks) (ms : List Marks) → is_any (f m) ≡ true → is_any (flat_map f (m ∷ ms)) ≡ true
any_first f m ms h = any_more (f m) (flat_map f ms) h

pub any_later : (f : Marks → List Marks) (m : Marks) (ms : List Marks) → is_any (f m) ≡ false → is_any (flat_map f (m ∷ ms)) ≡ is_any (flat_map f ms)
any_later f m ms h = none_more (f m) (flat_map f ms) h

-- whether paths go a way
pub test_hits : (texts : List TestText) (t : Asked) (x : TestText) (e : Bool) (h m : Tree TestText) (old : List Marks) →
    AreApart texts → t.number < length texts → text_at texts t.number ≡ x → t.equals ≡ equals_of x → t.exchanged ≡ e →
    is_any (flat_map (behind_test t true) old) ≡ is_any (those into_first (all_ahead texts (Tested x e h m) old))
test_hits texts t x e h m old apart w at o k =
    let new = flat_map (behind_test t true) old in
    sym (any_ahead texts h new) ∙ ap is_any (tested_first texts t x e h m old new apart w at o k refl)

pub test_misses : (texts : List TestText) (t : Asked) (x : TestText) (e : Bool) (h m : Tree TestText) (old : List Marks) →
    AreApart texts → t.number < length texts → text_at texts t.number ≡ x → t.equals ≡ equals_of x → t.exchanged ≡ e →
    is_any (flat_map (behind_test t false) old) ≡ is_any (those into_second (all_ahead texts (Tested x e h m) old))
test_misses texts t x e h m old apart w at o k =
    let new = flat_map (behind_test t false) old in
    sym (any_ahead texts m new) ∙ ap is_any (tested_second texts t x e h m old new apart w at o k refl)

pub free_hits : (texts : List TestText) (h m : Tree TestText) (ms : List Marks) → is_any ms ≡ is_any (those into_first (all_ahead texts (Free h m) ms))
free_hits texts h m ms = sym (any_ahead texts h ms) ∙ ap is_any (sym (free_ways_first texts h m ms))

pub free_misses : (texts : List TestText) (h m : Tree TestText) (ms : List Marks) → is_any ms ≡ is_any (those into_second (all_ahead texts (Free h m) ms))
free_misses texts h m ms = sym (any_ahead texts m ms) ∙ ap is_any (sym (free_ways_second texts h m ms))

-- the paths that come to a question go on as those behind it
abbrev behind_ways : List TestText → Tree TestText → List Marks → List (List Branch)
behind_ways texts t ms = those into_first (all_ahead texts t ms) ++ those into_second (all_ahead texts t ms)

twice : (xs : List (List Branch)) → HaveSame xs (xs ++ xs)
twice xs = record {
  forth = λ x i. Contains-append_left xs xs x i;
  back = λ x i. elim (Contains-append_cases xs xs x i) [ inl j ↦ j | inr j ↦ j ];
}

abbrev join : List (List Branch) → List (List Branch) → List (List Branch)
join xs ys = xs ++ ys

free_untold : (texts : List TestText) (t : Tree TestText) (ms : List Marks) → HaveSame (all_ahead texts t ms) (behind_ways texts (Free t t) ms)
free_untold texts t ms =
    let xs = all_ahead texts t ms in
    onward xs (xs ++ xs) (behind_ways texts (Free t t) ms) (twice xs)
    (same (xs ++ xs) (behind_ways texts (Free t t) ms) (ap₂ join (sym (free_ways_first texts t t ms)) (sym (free_ways_second texts t t ms))))

tested_untold : (texts : List TestText) (x : TestText) (e : Bool) (t : Tree TestText) (ms : List Marks) → HaveSame (all_ahead texts t ms) (behind_ways texts (Tested x e t t) ms)
tested_untold texts x e t ms =
    let us = all_ahead texts t (flat_map (behind_test (asked_of texts x e) true) ms) in
    let vs = all_ahead texts t (flat_map (behind_test (asked_of texts x e) false) ms) in
    onward (all_ahead texts t ms) (us ++ vs) (behind_ways texts (Tested x e t t) ms) (test_untold texts x e t ms)
    (same (us ++ vs) (behind_ways texts (Tested x e t t) ms) (ap₂ join (sym (test_ways_first texts x e t t ms)) (sym (test_ways_second texts x e t t ms))))

pub untold : (texts : List TestText) (q : Question) (t : Tree TestText) (ms : List Marks) → HaveSame (all_ahead texts t ms) (behind_ways texts (asking q t t) ms)
untold texts (Get place chain n key var) t ms = free_untold texts t ms
untold texts (Find place chain at guards var) t ms = free_untold texts t ms
untold texts (Test place c l r) t ms = split (of_packet l && of_packet r) refl
  where
    split : (b : Bool) → (of_packet l && of_packet r) ≡ b → HaveSame (all_ahead texts t ms) (behind_ways texts (asking (Test place c l r) t t) ms)
    split true e = subst (λ (u : Tree TestText). HaveSame (all_ahead texts t ms) (behind_ways texts u ms)) (sym (asks_test place c l r e t t)) (tested_untold texts (text_of c l r) (is_exchanged c) t ms)
    split false e = subst (λ (u : Tree TestText). HaveSame (all_ahead texts t ms) (behind_ways texts u ms)) (sym (asks_free place c l r e t t)) (free_untold texts t ms)

pub in_vain : (a b c : Bool) (live : List (List Branch)) → a ≡ is_any live → b ≡ is_any (those into_first live) → c ≡ is_any (those into_second live) → a ∷ b ∷ c ∷ [] ≡ alive_in_vain live
in_vain a b c live e f g = ap₂ (λ x xs. x ∷ xs) e (ap₂ (λ x xs. x ∷ xs) f (ap (λ x. x ∷ []) g))

pub asks_in_vain : (b : Block) (q : Question) (hit miss next : Block) → b ≡ Ask q hit miss next → hit ≡ End FallsOff → miss ≡ End FallsOff → AsksInVain b q
asks_in_vain b q hit miss next e h m = record { next = next; is = e ∙ ap₂ (λ x y. Ask q x y next) h m }
