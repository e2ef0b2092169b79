-- The fields of a handled frame by its version of IP.
use Rattle.std.proofs.Common.{◌≡◌, ℕ, Bool, true, false, cond, List, Option, Some, None, refl, ap}
use Rattle.nf_base.specs.declared.packet.Family.{Family}
use Rattle.nf_base.specs.declared.packet.Family.TheVariants.{Four, Six}
use Rattle.nf_base.specs.declared.packet.Fields.{Fields}
use Rattle.nf_base.specs.Families.{family_of}
use Rattle.frame_ip.specs.Frame.{is_four, is_six, family_in, fields_at, fields_in}
use Rattle.frame_ip.specs.FourFrame as four
use Rattle.frame_ip.specs.SixFrame as six

abbrev family : Bool → Bool → Option Family
family a b = cond a (Some Four) (cond b (Some Six) None)

if_four : (a b : Bool) (x y : Fields) → family a b ≡ Some Four → cond a x y ≡ x
if_four true b x y is = refl
if_four false true x y is = cc
if_four false false x y is = cc

if_six : (a b : Bool) (x y : Fields) → family a b ≡ Some Six → cond a x y ≡ y
if_six true b x y is = cc
if_six false true x y is = refl
if_six false false x y is = cc

if_some : (a b : Bool) (x y : Fields) (f : Family) → family a b ≡ Some f → cond a (Some x) (cond b (Some y) None) ≡ Some (cond a x y)
if_some true b x y f is = refl
if_some false true x y f is = refl
if_some false false x y f is = cc

pub four_at : (f : List ℕ) (n : ℕ) → family_in f ≡ Some Four → fields_at f n ≡ four.fields_at f n
four_at f n is = if_four (is_four f) (is_six f) (four.fields_at f n) (six.fields_at f n) is

pub six_at : (f : List ℕ) (n : ℕ) → family_in f ≡ Some Six → fields_at f n ≡ six.fields_at f n
six_at f n is = if_six (is_four f) (is_six f) (four.fields_at f n) (six.fields_at f n) is

pub fields_are : (f : List ℕ) (n : ℕ) (family : Family) → family_in f ≡ Some family → fields_in f n ≡ Some (fields_at f n)
fields_are f n family is = if_some (is_four f) (is_six f) (four.fields_at f n) (six.fields_at f n) family is

pub family_at : (f : List ℕ) (n : ℕ) (family : Family) → family_in f ≡ Some family → family_of (fields_at f n) ≡ family
family_at f n Four is = ap family_of (four_at f n is)
family_at f n Six is = ap family_of (six_at f n is)
