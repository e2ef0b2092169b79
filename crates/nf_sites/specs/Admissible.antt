-- What a hash for each port promises to the sites of a function.
use Rattle.std.specs.Prelude.{◌≡◌, ℕ, IsTrue, Option, Some, None, Contains}
use Rattle.nf_base.specs.Families.{family_of}
use Rattle.nf_base.specs.declared.packet.Door.{Door}
use Rattle.nf_base.specs.declared.packet.Fields.{Fields}
use Rattle.nf_base.specs.Text.{Function}
use Rattle.nf_base.specs.Objects.{is_written}
use Rattle.nf_base.specs.declared.hash_fields.Hashable.{Hashable}
use Rattle.nf_base.specs.Hashed.{value, IsInput}
use Rattle.nf_sites.specs.Sites.{Site}
use Rattle.nf_sites.specs.OnPaths.{sites_of, IsSite}
use Rattle.nf_sites.specs.Known.{known, labels_of, kept, IsKept}

-- a field of one input is that field of another, where both are said
abbrev pub AreEqual : Fields → Fields → Option Hashable → Option Hashable → Type 0
AreEqual p q None b = Unit {0}
AreEqual p q (Some a) None = Unit {0}
AreEqual p q (Some a) (Some b) = value p a ≡ value q b

-- two inputs agree at two sites of one object: in each kept label, by the fields known there
abbrev pub Agree : Function → (x y : Site) → (p q : Fields) → Type 0
Agree f x y p q =
    (l : ℕ) → Contains (kept f x.object) l → AreEqual p q (known f x l) (known f y l)

-- an input within its widths, of a site's family
pub record IsAt (x : Site) (p : Fields) : Type 0 where
  pub family : family_of p ≡ x.door.family
  pub input : IsInput p

-- A hash of each port's input is admissible where inputs that agree at two sites of a written
-- object have one hash, each by its site's port.
abbrev pub IsAdmissibleBySites : Function → (hash : Door → Fields → ℕ) → Type 0
IsAdmissibleBySites f hash =
    (x y : Site) → Contains (sites_of f) x → Contains (sites_of f) y → x.object ≡ y.object →
    IsTrue (is_written f x.object) → (p q : Fields) → IsAt x p → IsAt y q → Agree f x y p q →
    hash x.door p ≡ hash y.door q

-- The same, as it stands: at the sites on feasible paths, and by the labels that are known at each
-- of them.
abbrev pub IsAdmissible : Function → (hash : Door → Fields → ℕ) → Type 0
IsAdmissible f hash =
    (x y : Site) → IsSite f x → IsSite f y → x.object ≡ y.object →
    IsTrue (is_written f x.object) → (p q : Fields) → IsAt x p → IsAt y q →
    ((l : ℕ) → Contains (labels_of f x.object) l → IsKept f x.object l →
    AreEqual p q (known f x l) (known f y l)) →
    hash x.door p ≡ hash y.door q
