-- Hashes that are admissible, and one that is not.
use Rattle.std.proofs.Common.{◌≡◌, ◌<◌, ◌^◌, ◌+◌, ℕ, zero, suc, true, ap₂, List, [], ◌∷◌, Contains, Option, Some, None, refl, ap, sym, ◌∙◌, subst, arith, inl, inr}
use Rattle.std.proofs.lemmas.Option.{same_Some}
use Rattle.std.proofs.Math.Dec.{lit<}
use Rattle.nf_base.specs.declared.packet.Addresses.TheVariants as addresses
use Rattle.nf_base.specs.declared.packet.Family.TheVariants as family
use Rattle.nf_base.specs.Families.{source, destination}
use Rattle.nf_base.specs.declared.packet.Fields.{Fields}
use Rattle.nf_base.specs.declared.hash_fields.Hashable.{Hashable}
use Rattle.nf_base.specs.declared.hash_fields.Hashable.TheVariants.{SrcIp, DstIp, SrcPort, DstPort}
use Rattle.nf_base.specs.Hashed.{value, width}
use Rattle.nf_base.specs.declared.decl.ObjectId.TheVariants as object
use Rattle.nf_base.specs.declared.width.Width.TheVariants.{W32}
use Rattle.nf_base.specs.declared.packet.Field.TheVariants as field
use Rattle.nf_laws.specs.Policer.{policer}
use Rattle.nf_laws.specs.Samples.{read}
use Rattle.nf_laws.proofs.Listed.{here, has, has_none}
use Rattle.nf_sites.specs.Sites.{Site, get_site}
use Rattle.nf_sites.specs.OnPaths.{sites_of}
use Rattle.nf_sites.specs.Known.{known, kept}
use Rattle.nf_sites.specs.Admissible.{AreEqual, IsAdmissibleBySites}
use Rattle.nf_sites.specs.Rows.{two_hashes, far_hash, HashesAreAdmissible}
use Rattle.nf_laws.specs.Nat.{nat}
use Rattle.nf_sites.specs.Samples.{read_only, two_chains, four_at}
use Rattle.nf_base.specs.Objects.{is_written}
use Rattle.nf_base.specs.declared.decl.ObjectId.{ObjectId}

abbrev Every : {A : Type 0} → (A → Type 0) → List A → Type 0
Every P [] = Unit {0}
Every P (x ∷ xs) = P x × Every P xs

every_at : {A : Type 0} (P : A → Type 0) (xs : List A) (x : A) → Every P xs → Contains xs x → P x
every_at P [] x h i = absurd (has_none x i)
every_at P (y ∷ xs) x h i = elim (has y xs x i) [ inl e ↦ subst P e h.0 | inr j ↦ every_at P xs x h.1 j ]

abbrev KnowsIt : Site → Type 0
KnowsIt x = (known policer x 0 ≡ Some DstIp) × (x.object ≡ object.Chain 0)

all_know : Every KnowsIt (sites_of policer)
all_know = ((refl, refl), ((refl, refl), ((refl, refl), tt)))

are_equal : (p q : Fields) (a b : Option Hashable) → a ≡ Some DstIp → b ≡ Some DstIp → AreEqual p q a b → destination p ≡ destination q
are_equal p q (Some g) (Some h) d e r = ap (value p) (sym (same_Some g DstIp d)) ∙ r ∙ ap (value q) (same_Some h DstIp e)
are_equal p q (Some g) None d e r = cc
are_equal p q None b d e r = cc

by_destination : IsAdmissibleBySites policer (λ door (p : Fields). destination p)
by_destination x y i j same written p q in_p in_q agree =
    let a = every_at KnowsIt (sites_of policer) x all_know i in
    let b = every_at KnowsIt (sites_of policer) y all_know j in
    are_equal p q (known policer x 0) (known policer y 0) a.0 b.0 (agree 0 (subst (λ o. Contains (kept policer o) 0) (sym a.1) (here 0 [])))

-- two inputs that differ in the source alone
abbrev from : ℕ → Fields
from a = record { length = 42; src_mac = 0; dst_mac = 0; addresses = addresses.Four a 9; proto = 17; ttl = 64; src_port = 1; dst_port = 2 }

within_7 : (h : Hashable) → value (from 7) h < 2 ^ width family.Four h
within_7 SrcIp = lit< tt
within_7 DstIp = lit< tt
within_7 SrcPort = lit< tt
within_7 DstPort = lit< tt

within_8 : (h : Hashable) → value (from 8) h < 2 ^ width family.Four h
within_8 SrcIp = lit< tt
within_8 DstIp = lit< tt
within_8 SrcPort = lit< tt
within_8 DstPort = lit< tt

abbrev first : Site
first = get_site policer.chains (four_at 1) 0 0 0 (read W32 field.DstIp ∷ [])

agree : (l : ℕ) → Contains (kept policer (object.Chain 0)) l → AreEqual (from 7) (from 8) (known policer first l) (known policer first l)
agree l h = elim (has 0 [] l h) [
  | inl e ↦ subst (λ n. AreEqual (from 7) (from 8) (known policer first n) (known policer first n)) e refl
  | inr j ↦ absurd (has_none l j)
]

not_by_source : IsAdmissibleBySites policer (λ door (p : Fields). source p) → ⊥
not_by_source good =
    let listed = here first (get_rest (sites_of policer)) in
    let equal : ◌≡◌ {A = ℕ} 7 8 = good first first listed listed refl refl (from 7) (from 8) (record { family = refl; input = record { within = within_7 } }) (record { family = refl; input = record { within = within_8 } }) agree in
    omega (arith, equal)
  where
    get_rest : List Site → List Site
    get_rest [] = []
    get_rest (x ∷ xs) = xs

-- a chain that is read only
abbrev IsFirstChain : Site → Type 0
IsFirstChain x = x.object ≡ object.Chain 0

unwritten : Every IsFirstChain (sites_of read_only)
unwritten = (refl, tt)

read_only_is_free : IsAdmissibleBySites read_only (λ door (p : Fields). destination p)
read_only_is_free x y i j same written p q in_p in_q agree =
    let at = every_at IsFirstChain (sites_of read_only) x unwritten i in
    let no : is_written read_only (object.Chain 0) ≡ true = subst (λ o. is_written read_only o ≡ true) at written in
    cc

-- two chains
abbrev port_field : ℕ → Hashable
port_field zero = SrcIp
port_field (suc port) = DstIp

record KnowsItsField (x : Site) : Type 0 where
  pub knows : known two_chains x 0 ≡ Some (port_field x.door.port)
  pub kept_there : Contains (kept two_chains x.object) 0
  pub of_port : x.object ≡ object.Chain x.door.port
  pub hash : (p : Fields) → two_hashes x.door p ≡ x.door.port + value p (port_field x.door.port)

all_know_theirs : Every KnowsItsField (sites_of two_chains)
all_know_theirs = (
  record { knows = refl; kept_there = here 0 []; of_port = refl; hash = λ p. omega arith },
  (
    record { knows = refl; kept_there = here 0 []; of_port = refl; hash = λ p. omega arith },
    (
      record { knows = refl; kept_there = here 0 []; of_port = refl; hash = λ p. omega arith },
      (record { knows = refl; kept_there = here 0 []; of_port = refl; hash = λ p. omega arith }, tt),
    ),
  ),
)

one_chain : (a b : ℕ) → ◌≡◌ {A = ObjectId} (object.Chain a) (object.Chain b) → a ≡ b
one_chain a b e = cc

agree_on : (p q : Fields) (a b : Option Hashable) (g h : Hashable) → a ≡ Some g → b ≡ Some h → AreEqual p q a b → value p g ≡ value q h
agree_on p q (Some k) (Some l) g h d e r = ap (value p) (sym (same_Some k g d)) ∙ r ∙ ap (value q) (same_Some l h e)
agree_on p q (Some k) None g h d e r = cc
agree_on p q None b g h d e r = cc

each_object_alone : IsAdmissibleBySites two_chains two_hashes
each_object_alone x y i j same written p q in_p in_q agree =
    let a = every_at KnowsItsField (sites_of two_chains) x all_know_theirs i in
    let b = every_at KnowsItsField (sites_of two_chains) y all_know_theirs j in
    let port : x.door.port ≡ y.door.port = one_chain x.door.port y.door.port (sym a.of_port ∙ same ∙ b.of_port) in
    let equal = agree_on p q (known two_chains x 0) (known two_chains y 0) (port_field x.door.port) (port_field y.door.port) a.knows b.knows (agree 0 a.kept_there) in
    a.hash p ∙ ap₂ (λ m n. m + n) port equal ∙ sym (b.hash q)

-- a NAT
abbrev far_field : ℕ → Hashable
far_field zero = DstIp
far_field (suc port) = SrcIp

record KnowsTheFarEnd (x : Site) : Type 0 where
  pub knows : known nat x 2 ≡ Some (far_field x.door.port)
  pub kept_there : Contains (kept nat x.object) 2
  pub hash : (p : Fields) → far_hash x.door p ≡ value p (far_field x.door.port)

abbrev later_kept : List ℕ
later_kept = 3 ∷ 4 ∷ 5 ∷ []

all_know_the_far_end : Every KnowsTheFarEnd (sites_of nat)
all_know_the_far_end = (
  record { knows = refl; kept_there = here 2 later_kept; hash = λ p. refl },
  (
    record { knows = refl; kept_there = here 2 later_kept; hash = λ p. refl },
    (
      record { knows = refl; kept_there = here 2 later_kept; hash = λ p. refl },
      (record { knows = refl; kept_there = here 2 later_kept; hash = λ p. refl }, tt),
    ),
  ),
)

by_far_end : IsAdmissibleBySites nat far_hash
by_far_end x y i j same written p q in_p in_q agree =
    let a = every_at KnowsTheFarEnd (sites_of nat) x all_know_the_far_end i in
    let b = every_at KnowsTheFarEnd (sites_of nat) y all_know_the_far_end j in
    a.hash p ∙ agree_on p q (known nat x 2) (known nat y 2) (far_field x.door.port) (far_field y.door.port) a.knows b.knows (agree 2 a.kept_there) ∙ sym (b.hash q)

pub hashes_admissible : HashesAreAdmissible
hashes_admissible = record { by_destination = by_destination; not_by_source = not_by_source; by_far_end = by_far_end; read_only_is_free = read_only_is_free; each_object_alone = each_object_alone }
