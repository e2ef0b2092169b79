-- Two lists side by side, as far as both go.
use Rattle.std.proofs.Common.{◌≡◌, ℕ, suc, ◌+◌, ◌<◌, List, [], ◌∷◌, ◌++◌, length, min, drop, get_or, refl, sym, ap, ◌∙◌, arith, length-drop}
use Rattle.std.proofs.lemmas.List.{drop_more}
use Rattle.nf_base.specs.declared.decl.ObjectId.{ObjectId}
use Rattle.access_keys.specs.declared.site.Site.{Site}
use Rattle.shard_rules.specs.declared.plan.ObjectVerdict.{ObjectVerdict}
use Rattle.key_proof.specs.declared.numbered.Numbered.{Numbered}
use Rattle.key_proof.specs.Sites.{standing_sites, objects_sites}

none_left : (n : ℕ) (sites : List Site) (os : List ObjectId) (ss : List ObjectVerdict) → min (length os) (length ss) ≡ 0 → objects_sites n sites os ss ≡ []
none_left n sites [] ss h = refl
none_left n sites (o ∷ os) [] h = refl
none_left n sites (o ∷ os) (s ∷ ss) h = absurd (omega arith)

no_more : (xs : List Numbered) → xs ≡ xs ++ []
no_more [] = refl
no_more (x ∷ xs) = ap (λ ys. x ∷ ys) (no_more xs)

pub objects_end : (sites : List Site) (os : List ObjectId) (ss : List ObjectVerdict) (k : ℕ) (all whole : List Numbered) → k ≡ min (length os) (length ss)
    → all ++ objects_sites k sites (drop k os) (drop k ss) ≡ whole → all ≡ whole
objects_end sites os ss k all whole h is =
    no_more all ∙ ap (λ (l : List Numbered). all ++ l) (sym (none_left k sites (drop k os) (drop k ss) (simp length-drop (omega arith)))) ∙ is

append_assoc : (xs ys zs : List Numbered) → (xs ++ ys) ++ zs ≡ xs ++ (ys ++ zs)
append_assoc [] ys zs = refl
append_assoc (x ∷ xs) ys zs = ap (λ l. x ∷ l) (append_assoc xs ys zs)

pub objects_more : (sites : List Site) (os : List ObjectId) (ss : List ObjectVerdict) (k : ℕ) (d : ObjectId) (st : ObjectVerdict) (all new whole : List Numbered) → k < length os → k < length ss → st ≡ get_or ss k st
    → new ≡ all ++ standing_sites k (get_or os k d) sites st → all ++ objects_sites k sites (drop k os) (drop k ss) ≡ whole → new ++ objects_sites (k + 1) sites (drop (k + 1) os) (drop (k + 1) ss) ≡ whole
objects_more sites os ss k d st all new whole one two there is before =
    ap (λ (l : List Numbered). l ++ objects_sites (k + 1) sites (drop (k + 1) os) (drop (k + 1) ss)) is
    ∙ append_assoc all (standing_sites k (get_or os k d) sites st) (objects_sites (k + 1) sites (drop (k + 1) os) (drop (k + 1) ss))
    ∙ sym (ap (λ (l : List ObjectId). all ++ objects_sites k sites l (drop k ss)) (drop_more os k d one)
    ∙ ap (λ (l : List ObjectVerdict). all ++ objects_sites k sites (get_or os k d ∷ drop (k + 1) os) l) (drop_more ss k st two ∙ ap (λ t. t ∷ drop (k + 1) ss) (sym there)))
    ∙ before
