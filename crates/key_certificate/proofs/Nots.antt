-- Trees for each bit of a vector that isn't the wanted one.
use Rattle.std.proofs.Common.{◌≡◌, ◌≢◌, ℕ, suc, ◌+◌, ◌-◌, ◌<◌, ◌≤◌, ◌&&◌, refl, sym, ap, ◌∙◌, subst, Bool, true, false, List, [], ◌∷◌, ◌++◌, All, length, set, Option, Some, None, if◌then◌else◌, arith}
use Rattle.std.proofs.lemmas.Bool.{false≢true, eq-eqb}
use Rattle.std.proofs.lemmas.List.{append_assoc, append-nil, set-set, length-set, length-replicate}
use Rattle.std.proofs.lemmas.List.Elements.{All-nil, All-cons}
use Rattle.nf_base.specs.declared.card.TableSize.{TableSize}
use Rattle.gf2_solve.specs.Sums.{plus, bit}
use Rattle.certificate_laws.specs.declared.line.Line.{Line}
use Rattle.certificate_laws.specs.declared.line.Line.TheVariants as line
use Rattle.certificate_laws.specs.declared.line.Span.{Span}
use Rattle.certificate_laws.specs.Fixed.{with_bit, fixed_before, none_fixed}
use Rattle.certificate_laws.specs.Terms.{rows_at}
use Rattle.certificate_laws.specs.Trees.{IsRefuted}
use Rattle.certificate_laws.specs.Laws.{AreRefuted}
use Rattle.certificate_laws.specs.Due.{Due, Naming, Whole, and_then, nots}
use Rattle.certificate_laws.proofs.Lines.{after_both}
use Rattle.certificate_check.proofs.Vectors.{fixed_next, fixed_same, none_before}
use Rattle.certificate_write.specs.Sayable.{IsPlace, IsSayable}
use Rattle.certificate_prove.specs.Growing.{AreNameable, Writes}
use Rattle.key_certificate.specs.Plain.{Leads}

append_all : {X : Type 0} (P : X → Type 0) (xs ys : List X) → All P xs → All P ys → All P (xs ++ ys)
append_all P [] ys first second = second
append_all P (x ∷ xs) ys first second = All-cons P x (xs ++ ys) (first 0 x (omega arith)) (append_all P xs ys (λ i d below. first (suc i) d (omega (arith, below))) second)

module _ (table : TableSize) (positions : List ℕ) (rows : List (List ℕ)) (spans : List Span) where
  -- nothing is written
  pub leads_on : (due rest : List Due) (old new : List Line) → due ≡ rest → new ≡ old → Leads table positions rows spans due rest old new
  leads_on due rest old new same is = record {
    lines = [];
    behind = is ∙ sym (append-nil old);
    right = ap Some same;
    sayable = All-nil (IsSayable table positions);
  }

  -- lines behind lines
  pub leads_both : (due next rest : List Due) (old mid new : List Line) → Leads table positions rows spans due next old mid → Leads table positions rows spans next rest mid new → Leads table positions rows spans due rest old new
  leads_both due next rest old mid new first second = record {
    lines = first.lines ++ second.lines;
    behind = second.behind ∙ ap (λ l. l ++ second.lines) first.behind ∙ append_assoc old first.lines second.lines;
    right = after_both (rows_at rows) spans due first.lines second.lines next first.right ∙ second.right;
    sayable = append_all (IsSayable table positions) first.lines second.lines first.sayable second.sayable;
  }

  -- a tree
  pub leads_tree : (fixed : List (Option Bool)) (rest : List Due) (old new : List Line) → Writes table positions rows spans fixed old new → Leads table positions rows spans (Whole fixed ∷ rest) rest old new
  leads_tree fixed rest old new writes = record { lines = writes.lines; behind = writes.behind; right = writes.right.taken rest; sayable = writes.sayable }

  -- the line that names a bit
  pub leads_name : (place : ℕ) (rest : List Due) (old new : List Line) → IsPlace positions place → new ≡ old ++ line.Not place ∷ [] → Leads table positions rows spans (Naming place ∷ rest) rest old new
  leads_name place rest old new counts is = record {
    lines = line.Not place ∷ [];
    behind = is;
    right = ap (λ b. and_then (if b then Some rest else None) (λ due. Some due)) (eq-eqb place place refl);
    sayable = All-cons (IsSayable table positions) (line.Not place) [] counts (All-nil (IsSayable table positions));
  }

-- ---- what is due at a bit

pub bit_differs : (a b : Bool) → plus a b ≡ true → a ≢ b
bit_differs false false is same = false≢true is
bit_differs true true is same = false≢true is
bit_differs false true is same = false≢true same
bit_differs true false is same = false≢true (sym same)

next_there : (n place : ℕ) → place < n → n - place ≡ suc (n - (place + 1))
next_there n place below = omega (arith, below)

module _ (counts : ℕ → Bool) (n : ℕ) (wanted x : List Bool) (place : ℕ) (below : place < n) where
  abbrev rest : List Due
  rest = nots counts n wanted x (n - (place + 1)) (place + 1)

  opened : nots counts n wanted x (n - place) place
      ≡ (if counts place && plus (bit x place) (bit wanted place) then Naming place ∷ Whole (with_bit place (bit wanted place) (fixed_before counts n x place)) ∷ rest else rest)
  opened =
      let next : suc place ≡ place + 1 = omega arith in
      ap (λ m. nots counts n wanted x m place) (next_there n place below)
      ∙ ap (λ m. if counts place && plus (bit x place) (bit wanted place)
      then Naming place ∷ Whole (with_bit place (bit wanted place) (fixed_before counts n x place)) ∷ nots counts n wanted x (n - (place + 1)) m
      else nots counts n wanted x (n - (place + 1)) m) next

  pub due_left : counts place ≡ false → nots counts n wanted x (n - place) place ≡ nots counts n wanted x (n - (place + 1)) (place + 1)
  due_left is = opened ∙ ap (λ b. if b && plus (bit x place) (bit wanted place) then Naming place ∷ Whole (with_bit place (bit wanted place) (fixed_before counts n x place)) ∷ rest else rest) is

  pub due_counted : counts place ≡ true
      → nots counts n wanted x (n - place) place
      ≡ (if plus (bit x place) (bit wanted place) then Naming place ∷ Whole (with_bit place (bit wanted place) (fixed_before counts n x place)) ∷ nots counts n wanted x (n - (place + 1)) (place + 1)
      else nots counts n wanted x (n - (place + 1)) (place + 1))
  due_counted is =
      opened ∙ ap (λ b. if b && plus (bit x place) (bit wanted place) then Naming place ∷ Whole (with_bit place (bit wanted place) (fixed_before counts n x place)) ∷ rest else rest) is

-- nothing is due behind the last bit
pub due_end : (counts : ℕ → Bool) (n : ℕ) (wanted x : List Bool) (place : ℕ) → n ≤ place → nots counts n wanted x (n - place) place ≡ []
due_end counts n wanted x place past = ap (λ m. nots counts n wanted x m place) (let none : n - place ≡ 0 = omega (arith, past) in none)

pub due_start : (counts : ℕ → Bool) (n : ℕ) (wanted x : List Bool) → nots counts n wanted x n 0 ≡ nots counts n wanted x (n - 0) 0
due_start counts n wanted x = ap (λ m. nots counts n wanted x m 0) (let same : n ≡ n - 0 = omega arith in same)

-- ---- bit after bit

pub set_twice : (fixed : List (Option Bool)) (place : ℕ) (a b : Bool) → set (set fixed place (Some a)) place (Some b) ≡ set fixed place (Some b)
set_twice fixed place a b = set-set fixed place (Some a) (Some b)

-- the bits before a place are fixed, and the trees for those of them that are named are written
pub record AreNotsTo (table : TableSize) (positions : List ℕ) (rows : List (List ℕ)) (spans : List Span) (counts wanted x : List Bool) (place : ℕ) (held : List (Option Bool)) (old new : List Line) : Type 0 where
  pub fixed : held ≡ fixed_before (bit counts) (length x) x place
  pub long : length held ≡ length x
  pub leads : Leads table positions rows spans (nots (bit counts) (length x) wanted x (length x) 0) (nots (bit counts) (length x) wanted x (length x - place) place) old new

module _ (table : TableSize) (positions : List ℕ) (rows : List (List ℕ)) (spans : List Span) (counts wanted x : List Bool) where
  pub nots_none : (fixed : List (Option Bool)) (old : List Line) → fixed ≡ none_fixed (length x) → AreNotsTo table positions rows spans counts wanted x 0 fixed old old
  nots_none fixed old is = record {
    fixed = is ∙ sym (none_before (bit counts) (length x) x);
    long = ap (λ (l : List (Option Bool)). length l) is ∙ length-replicate {A = Option Bool} (length x) None;
    leads = leads_on table positions rows spans (nots (bit counts) (length x) wanted x (length x) 0) (nots (bit counts) (length x) wanted x (length x - 0) 0) old old (due_start (bit counts) (length x) wanted x) refl;
  }

  -- the same, where the due behind is another by name
  moved : (due next other : List Due) (old new : List Line) → next ≡ other → Leads table positions rows spans due next old new → Leads table positions rows spans due other old new
  moved due next other old new same leads = subst (λ (r : List Due). Leads table positions rows spans due r old new) same leads

  pub nots_left : (place : ℕ) (fixed : List (Option Bool)) (old new : List Line) → place < length x → bit counts place ≡ false → AreNotsTo table positions rows spans counts wanted x place fixed old new
      → AreNotsTo table positions rows spans counts wanted x (place + 1) fixed old new
  nots_left place fixed old new below is before = record {
    fixed = before.fixed ∙ fixed_same (bit counts) (length x) x place is;
    long = before.long;
    leads = moved (nots (bit counts) (length x) wanted x (length x) 0) (nots (bit counts) (length x) wanted x (length x - place) place) (nots (bit counts) (length x) wanted x (length x - (place + 1)) (place + 1)) old new
        (due_left (bit counts) (length x) wanted x place below is) before.leads;
  }

  pub nots_more : (place : ℕ) (own aim : Bool) (fixed after_it : List (Option Bool)) (old mid new : List Line) → place < length x → bit counts place ≡ true → own ≡ bit x place → aim ≡ bit wanted place
      → AreNotsTo table positions rows spans counts wanted x place fixed old mid → after_it ≡ set fixed place (Some own)
      → ((rest : List Due) → Leads table positions rows spans (if plus own aim then Naming place ∷ Whole (set fixed place (Some aim)) ∷ rest else rest) rest mid new)
      → AreNotsTo table positions rows spans counts wanted x (place + 1) after_it old new
  nots_more place own aim fixed after_it old mid new below is one two before next leads =
      let rest : List Due = nots (bit counts) (length x) wanted x (length x - (place + 1)) (place + 1) in
      let due : List Due = nots (bit counts) (length x) wanted x (length x - place) place in
      let same : nots (bit counts) (length x) wanted x (length x - place) place ≡ (if plus own aim then Naming place ∷ Whole (set fixed place (Some aim)) ∷ rest else rest) =
      due_counted (bit counts) (length x) wanted x place below is
      ∙ sym (ap (λ b. if plus b aim then Naming place ∷ Whole (set fixed place (Some aim)) ∷ rest else rest) one
      ∙ ap (λ b. if plus (bit x place) b then Naming place ∷ Whole (set fixed place (Some b)) ∷ rest else rest) two
      ∙ ap (λ (l : List (Option Bool)). if plus (bit x place) (bit wanted place) then Naming place ∷ Whole (set l place (Some (bit wanted place))) ∷ rest else rest) before.fixed) in
      record {
        fixed = next ∙ ap (λ b. set fixed place (Some b)) one ∙ ap (λ (l : List (Option Bool)). set l place (Some (bit x place))) before.fixed ∙ fixed_next (bit counts) (length x) x place below is;
        long = ap (λ (l : List (Option Bool)). length l) next ∙ length-set fixed place (Some own) ∙ before.long;
        leads = leads_both table positions rows spans (nots (bit counts) (length x) wanted x (length x) 0) due rest old mid new before.leads
            (subst (λ (d : List Due). Leads table positions rows spans d rest mid new) (sym same) (leads rest));
      }

  pub nots_all : (place : ℕ) (fixed : List (Option Bool)) (old new : List Line) → length x ≤ place → AreNotsTo table positions rows spans counts wanted x place fixed old new
      → Leads table positions rows spans (nots (bit counts) (length x) wanted x (length x) 0) [] old new
  nots_all place fixed old new past before =
      moved (nots (bit counts) (length x) wanted x (length x) 0) (nots (bit counts) (length x) wanted x (length x - place) place) [] old new (due_end (bit counts) (length x) wanted x place past) before.leads

-- what is refuted at a bit
pub refuted_here : (rows : List (List Bool)) (spans : List Span) (counts wanted x : List Bool) (place : ℕ) (own aim : Bool) (fixed : List (Option Bool)) → AreRefuted (bit counts) rows spans (length x) wanted x → place < length x → bit counts place ≡ true
    → own ≡ bit x place → aim ≡ bit wanted place → fixed ≡ fixed_before (bit counts) (length x) x place → plus own aim ≡ true → IsRefuted rows spans (set fixed place (Some aim))
refuted_here rows spans counts wanted x place own aim fixed all below is one two fixed_is differs =
    let other : bit x place ≢ bit wanted place = bit_differs (bit x place) (bit wanted place) (sym (ap (λ b. plus b aim) one ∙ ap (plus (bit x place)) two) ∙ differs) in
    subst (IsRefuted rows spans) (sym (ap (λ (l : List (Option Bool)). set l place (Some aim)) fixed_is ∙ ap (λ b. set (fixed_before (bit counts) (length x) x place) place (Some b)) two))
    (all.each place below is other)

-- what can be named over so many bits
pub nameable_here : (table : TableSize) (positions : List ℕ) (rows : List (List ℕ)) (spans : List Span) (n m : ℕ) → m ≡ n → AreNameable table positions n rows spans → AreNameable table positions m rows spans
nameable_here table positions rows spans n m same is = subst (λ (k : ℕ). AreNameable table positions k rows spans) (sym same) is
