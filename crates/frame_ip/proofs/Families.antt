-- The definitions of a frame by its version of IP, where that is known.
use Rattle.std.proofs.Common.{◌≡◌, ℕ, Bool, true, false, cond, List, Option, Some, None, refl, ap, sym}
use Rattle.nf_base.specs.declared.done.Edits.{Edits}
use Rattle.nf_base.specs.declared.packet.Family.TheVariants as family
use Rattle.nf_base.specs.declared.packet.Fields.{Fields}
use Rattle.frame_ip.specs.Frame.{is_four, is_six, family_in, fields_in}
use Rattle.frame_ip.specs.FourFrame as in_four
use Rattle.frame_ip.specs.SixFrame as in_six
use Rattle.frame_ip.specs.Writes.{put_all}
use Rattle.frame_ip.specs.FourEdit as four
use Rattle.frame_ip.specs.SixEdit as six
use Rattle.frame_ip.specs.Edit.{edited}

abbrev either : {A : Type 0} → Bool → Bool → A → A → Option A
either a b x y = cond a (Some x) (cond b (Some y) None)

if_four : (a b : Bool) (x y : Fields) → either a b family.Four family.Six ≡ Some family.Four → either a b x y ≡ Some x
if_four true b x y is = refl
if_four false true x y is = cc
if_four false false x y is = cc

if_six : (a b : Bool) (x y : Fields) → either a b family.Four family.Six ≡ Some family.Six → either a b x y ≡ Some y
if_six true b x y is = cc
if_six false true x y is = refl
if_six false false x y is = cc

pub fields_of_four : (f : List ℕ) (n : ℕ) → family_in f ≡ Some family.Four → fields_in f n ≡ Some (in_four.fields_at f n)
fields_of_four f n is = if_four (is_four f) (is_six f) (in_four.fields_at f n) (in_six.fields_at f n) is

pub fields_of_six : (f : List ℕ) (n : ℕ) → family_in f ≡ Some family.Six → fields_in f n ≡ Some (in_six.fields_at f n)
fields_of_six f n is = if_six (is_four f) (is_six f) (in_four.fields_at f n) (in_six.fields_at f n) is

pub edited_four : (e : Edits) (f : List ℕ) → is_four f ≡ true → four.edited e f ≡ edited e f
unfolding edited four.edited
edited_four e f is = ap (λ (b : Bool). put_all (cond b (four.writes e f) (six.writes e f)) f) (sym is)

pub edited_six : (e : Edits) (f : List ℕ) → is_four f ≡ false → six.edited e f ≡ edited e f
unfolding edited six.edited
edited_six e f is = ap (λ (b : Bool). put_all (cond b (four.writes e f) (six.writes e f)) f) (sym is)
