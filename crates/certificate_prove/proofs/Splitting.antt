-- A split, and what is written below it.
use Rattle.std.proofs.Common.{◌≡◌, ℕ, zero, suc, ◌+◌, ◌<◌, ◌≤◌, refl, sym, ap, ◌∙◌, subst, Bool, true, false, List, [], ◌∷◌, ◌++◌, All, length, set, Option, Some, None, if◌then◌else◌, arith}
use Rattle.std.proofs.lemmas.List.{append_assoc, set-set, set-get_or, length-set}
use Rattle.std.proofs.lemmas.List.Elements.{All-cons}
use Rattle.std.proofs.lemmas.Bool.{lt-ltb}
use Rattle.std.proofs.lemmas.Option.{none-some}
use Rattle.nf_base.specs.declared.card.TableSize.{TableSize}
use Rattle.certificate_laws.specs.declared.line.Line.{Line}
use Rattle.certificate_laws.specs.declared.line.Line.TheVariants as line
use Rattle.certificate_laws.specs.declared.line.Span.{Span}
use Rattle.certificate_laws.specs.Fixed.{fixed_at, with_bit}
use Rattle.certificate_laws.specs.Terms.{rows_at}
use Rattle.certificate_laws.specs.Trees.{IsRefuted}
use Rattle.certificate_laws.specs.Due.{Whole, and_then, after_all}
use Rattle.certificate_laws.proofs.Lines.{after_both}
use Rattle.certificate_laws.proofs.Growing.{narrower}
use Rattle.certificate_write.specs.Sayable.{IsPlace, IsSayable}
use Rattle.certificate_prove.specs.Growing.{AreNameable, Writes, open_count}

pub off_refuted : (rows : List (List ℕ)) (spans : List Span) (fixed : List (Option Bool)) (place : ℕ) → fixed_at fixed place ≡ None → IsRefuted (rows_at rows) spans fixed → IsRefuted (rows_at rows) spans (set fixed place (Some false))
off_refuted rows spans fixed place free refuted = narrower (rows_at rows) spans fixed place false free refuted

pub on_refuted : (rows : List (List ℕ)) (spans : List Span) (fixed off : List (Option Bool)) (place : ℕ) → off ≡ set fixed place (Some false) → fixed_at fixed place ≡ None → IsRefuted (rows_at rows) spans fixed
    → IsRefuted (rows_at rows) spans (set off place (Some true))
on_refuted rows spans fixed off place is free refuted =
    subst (IsRefuted (rows_at rows) spans) (sym (ap (λ (l : List (Option Bool)). set l place (Some true)) is ∙ set-set fixed place (Some false) (Some true))) (narrower (rows_at rows) spans fixed place true free refuted)

pub long_on : (fixed off : List (Option Bool)) (place : ℕ) → off ≡ set fixed place (Some false) → length (set off place (Some true)) ≡ length fixed
long_on fixed off place is = length-set off place (Some true) ∙ ap length is ∙ length-set fixed place (Some false)

pub nameable_at : (table : TableSize) (positions : List ℕ) (n m : ℕ) (rows : List (List ℕ)) (spans : List Span) → m ≡ n → AreNameable table positions n rows spans → AreNameable table positions m rows spans
nameable_at table positions n m rows spans same nameable = subst (λ (k : ℕ). AreNameable table positions k rows spans) (sym same) nameable

-- fewer bits are open
fewer : (fixed : List (Option Bool)) (place : ℕ) (b : Bool) → place < length fixed → fixed_at fixed place ≡ None → suc (open_count (set fixed place (Some b))) ≡ open_count fixed
fewer [] place b below free = absurd (omega (arith, below))
fewer (None ∷ fixed) zero b below free = refl
fewer (Some c ∷ fixed) zero b below free = absurd (none-some c (sym free))
fewer (None ∷ fixed) (suc place) b below free = ap suc (fewer fixed place b (omega (arith, below)) free)
fewer (Some c ∷ fixed) (suc place) b below free = fewer fixed place b (omega (arith, below)) free

pub fewer_off : (fixed : List (Option Bool)) (place : ℕ) → place < length fixed → fixed_at fixed place ≡ None → open_count (set fixed place (Some false)) < open_count fixed
fewer_off fixed place below free = omega (arith, fewer fixed place false below free)

pub fewer_on : (fixed off : List (Option Bool)) (place : ℕ) → off ≡ set fixed place (Some false) → place < length fixed → fixed_at fixed place ≡ None → open_count (set off place (Some true)) < open_count fixed
fewer_on fixed off place is below free =
    omega (arith, fewer fixed place true below free, ap (λ (l : List (Option Bool)). open_count (set l place (Some true))) is, ap open_count (set-set fixed place (Some false) (Some true)))

pub back : (fixed : List (Option Bool)) (place : ℕ) → fixed_at fixed place ≡ None → set (set (set fixed place (Some false)) place (Some true)) place None ≡ fixed
back fixed place free =
    ap (λ (l : List (Option Bool)). set l place None) (set-set fixed place (Some false) (Some true)) ∙ set-set fixed place (Some true) None ∙ ap (set fixed place) (sym free) ∙ set-get_or fixed place None

append_all : {X : Type 0} (P : X → Type 0) (xs ys : List X) → All P xs → All P ys → All P (xs ++ ys)
append_all P [] ys first second = second
append_all P (x ∷ xs) ys first second = All-cons P x (xs ++ ys) (first 0 x (omega arith)) (append_all P xs ys (λ i d below. first (suc i) d (omega (arith, below))) second)

pub split_written : (table : TableSize) (positions : List ℕ) (rows : List (List ℕ)) (spans : List Span) (fixed : List (Option Bool)) (place : ℕ) (old one two : List Line) → place < length fixed → IsPlace positions place
    → Writes table positions rows spans (set fixed place (Some false)) (old ++ line.Split place ∷ []) one → Writes table positions rows spans (set (set fixed place (Some false)) place (Some true)) one two
    → Writes table positions rows spans fixed old two
split_written table positions rows spans fixed place old one two below counted off on = record {
  lines = line.Split place ∷ off.lines ++ on.lines;
  behind = on.behind ∙ ap (λ l. l ++ on.lines) (off.behind ∙ append_assoc old (line.Split place ∷ []) off.lines) ∙ append_assoc old (line.Split place ∷ off.lines) on.lines;
  right = record {
    taken = λ due.
        let set_off : List (Option Bool) = with_bit place false fixed in
        let set_on : List (Option Bool) = with_bit place true fixed in
        ap (λ t. and_then (if t then Some (Whole set_off ∷ Whole set_on ∷ due) else None) (λ next. after_all (rows_at rows) spans next (off.lines ++ on.lines))) (lt-ltb place (length fixed) below)
        ∙ after_both (rows_at rows) spans (Whole set_off ∷ Whole set_on ∷ due) off.lines on.lines (Whole set_on ∷ due) (off.right.taken (Whole set_on ∷ due))
        ∙ ap (λ (l : List (Option Bool)). after_all (rows_at rows) spans (Whole l ∷ due) on.lines) (sym (set-set fixed place (Some false) (Some true)))
        ∙ on.right.taken due;
  };
  sayable = All-cons (IsSayable table positions) (line.Split place) (off.lines ++ on.lines) counted (append_all (IsSayable table positions) off.lines on.lines off.sayable on.sayable);
}
