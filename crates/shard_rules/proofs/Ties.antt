-- Two inputs that are tied by the fields of kept labels.
use Rattle.std.proofs.Common.{◌≡◌, ℕ, List, [], ◌∷◌, true, Option, Some, None, map, Contains, refl, ap, sym, ◌∙◌, subst, inl, inr}
use Rattle.std.specs.List.{filter_map}
use Rattle.std.specs.Option.{is_some}
use Rattle.nf_base.specs.declared.packet.Fields.{Fields}
use Rattle.nf_laws.proofs.Listed.{here, there, has, has_none}
use Rattle.nf_base.specs.declared.hash_fields.Hashable.{Hashable}
use Rattle.nf_base.specs.Hashed.{value}
use Rattle.nf_sites.specs.Admissible.{AreEqual}
use Rattle.access_keys.specs.declared.site.Site.{Site}
use Rattle.shard_rules.specs.Sites.{field_at, knows}

-- both sites know a label
pub record BothKnow (s t : Site) (l : ℕ) : Type 0 where
  pub first : Hashable
  pub second : Hashable
  pub by_first : field_at s l ≡ Some first
  pub by_second : field_at t l ≡ Some second

some_of : (o : Option Hashable) → is_some o ≡ true → (h : Hashable) × (o ≡ Some h)
some_of None e = absurd (cc)
some_of (Some h) e = (h, refl)

pub both_know : (s t : Site) (l : ℕ) → knows l s ≡ true → knows l t ≡ true → BothKnow s t l
both_know s t l e h =
    let a = some_of (field_at s l) e in
    let b = some_of (field_at t l) h in
    record { first = a.0; second = b.0; by_first = a.1; by_second = b.1 }

-- fields of labels, the first label apart
abbrev fields_of : Fields → Site → List ℕ → List ℕ
fields_of p s ls = map (value p) (filter_map (field_at s) ls)

first_field : (p : Fields) (s : Site) (l : ℕ) (ls : List ℕ) (h : Hashable) → field_at s l ≡ Some h → fields_of p s (l ∷ ls) ≡ value p h ∷ fields_of p s ls
first_field p s l ls h e = rw e refl

equal_values : (p q : Fields) (a b : Option Hashable) (h k : Hashable) → a ≡ Some h → b ≡ Some k → AreEqual p q a b → value p h ≡ value q k
equal_values p q a b h k e g same = subst (λ (o : Option Hashable). AreEqual p q o (Some k)) e (subst (λ (o : Option Hashable). AreEqual p q a o) g same)

values_equal : (p q : Fields) (a b : Option Hashable) (h k : Hashable) → a ≡ Some h → b ≡ Some k → value p h ≡ value q k → AreEqual p q a b
values_equal p q a b h k e g same =
    subst (λ (o : Option Hashable). AreEqual p q o b) (sym e) (subst (λ (o : Option Hashable). AreEqual p q (Some h) o) (sym g) same)

-- equal fields tie
pub tie : (p q : Fields) (s t : Site) (ls : List ℕ) → ((l : ℕ) → Contains ls l → BothKnow s t l) → ((l : ℕ) → Contains ls l → AreEqual p q (field_at s l) (field_at t l)) → fields_of p s ls ≡ fields_of q t ls
tie p q s t [] know same = refl
tie p q s t (l ∷ ls) know same =
    let k = know l (here l ls) in
    let v : value p k.first ≡ value q k.second = equal_values p q (field_at s l) (field_at t l) k.first k.second k.by_first k.by_second (same l (here l ls)) in
    let rest : fields_of p s ls ≡ fields_of q t ls = tie p q s t ls (λ m i. know m (there l ls m i)) (λ m i. same m (there l ls m i)) in
    first_field p s l ls k.first k.by_first
    ∙ ap (λ n. n ∷ fields_of p s ls) v
    ∙ ap (λ ns. value q k.second ∷ ns) rest
    ∙ sym (first_field q t l ls k.second k.by_second)

-- and are tied alone where they are equal
pub untie : (p q : Fields) (s t : Site) (ls : List ℕ) → ((l : ℕ) → Contains ls l → BothKnow s t l) → fields_of p s ls ≡ fields_of q t ls → (l : ℕ) → Contains ls l → AreEqual p q (field_at s l) (field_at t l)
untie p q s t [] know tied l i = absurd (has_none l i)
untie p q s t (m ∷ ls) know tied l i =
    let k = know m (here m ls) in
    let both : value p k.first ∷ fields_of p s ls ≡ value q k.second ∷ fields_of q t ls =
    sym (first_field p s m ls k.first k.by_first) ∙ tied ∙ first_field q t m ls k.second k.by_second in
    let head : value p k.first ≡ value q k.second = cc in
    let rest : fields_of p s ls ≡ fields_of q t ls = cc in
    elim (has m ls l i) [
      | inl e ↦ subst (λ (n : ℕ). AreEqual p q (field_at s n) (field_at t n)) e (values_equal p q (field_at s m) (field_at t m) k.first k.second k.by_first k.by_second head)
      | inr j ↦ untie p q s t ls (λ n c. know n (there m ls n c)) rest l j
    ]
