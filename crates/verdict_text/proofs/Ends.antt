-- Two lists side by side, of which one has ended.
use Rattle.std.proofs.Common.{◌≡◌, ℕ, ◌+◌, ◌-◌, ◌<◌, suc, List, [], ◌∷◌, length, min, drop, refl, ap, arith, length-drop}
use Rattle.std.specs.List.{range_with_len}
use Rattle.nf_base.specs.declared.decl.ObjectId.{ObjectId}
use Rattle.nf_base.specs.Text.{Function}
use Rattle.access_keys.specs.declared.site.Site.{Site}
use Rattle.shard_rules.specs.declared.plan.ObjectVerdict.{ObjectVerdict}
use Rattle.verdict_text.specs.Objects.{objects_text}

none_left : (f : Function) (sites : List Site) (os : List ObjectId) (ss : List ObjectVerdict) → min (length os) (length ss) ≡ 0 → objects_text f sites os ss ≡ []
none_left f sites [] ss h = refl
none_left f sites (o ∷ os) [] h = refl
none_left f sites (o ∷ os) (s ∷ ss) h = absurd (omega arith)

pub objects_end : (f : Function) (sites : List Site) (os : List ObjectId) (ss : List ObjectVerdict) (k : ℕ) → k ≡ min (length os) (length ss) → objects_text f sites (drop k os) (drop k ss) ≡ []
objects_end f sites os ss k h = none_left f sites (drop k os) (drop k ss) (simp length-drop (omega arith))

-- a range begins with its first number
pub range_first : (a b : ℕ) → a < b → range_with_len a (b - a) ≡ a ∷ range_with_len (a + 1) (b - (a + 1))
range_first a b l = let e : b - a ≡ suc (b - (a + 1)) = omega arith in ap (range_with_len a) e
