-- What a system stands for, row by row.
use Rattle.std.proofs.Common.{◌≡◌, ℕ, zero, suc, refl, sym, ap, ◌∙◌, subst, Bool, true, false, List, [], ◌∷◌, ◌++◌, length, take, replicate, None, All, arith}
use Rattle.std.proofs.lemmas.List.{length-replicate, length_push, get_or_push, take_at}
use Rattle.std.proofs.lemmas.List.Elements.{All-nil, All-push, All-take, All-get_or}
use Rattle.std.proofs.lemmas.Bool.{false≢true}
use Rattle.std.proofs.lemmas.Option.{none-some}
use Rattle.gf2_solve.specs.Sums.{plus, bit, sum_of}
use Rattle.gf2_solve.specs.Equations.{led_at, AreLed, HasGap}
use Rattle.gf2_solve.specs.Solutions.{IsSolution}
use Rattle.gf2_solve.specs.Kept.{Kept, kept, width_of, StandsFor, HasRowMore}
use Rattle.gf2_solve.specs.Searches.{IsNarrowed, IsFixed, Excludes}
use Rattle.gf2_solve.proofs.SumLemmas.{plus_self, sum_of-push, sum_of-take, sum_of-zeros, same_bits}

none_leads : (n i : ℕ) → led_at (replicate n None) i ≡ None
none_leads zero i = refl
none_leads (suc n) zero = refl
none_leads (suc n) (suc i) = none_leads n i

pub none_led : (n : ℕ) → AreLed (replicate n None)
none_led n = record { ends = λ i e h. absurd (none-some e (sym (none_leads n i) ∙ h)) }

pub stands_none : (n : ℕ) → StandsFor (kept (replicate n None) true) n []
stands_none n = record {
  width = length-replicate n None;
  sound = λ x has. record { length = has.length ∙ length-replicate n None; sums = All-nil _ };
  complete = λ x is. record {
    possible = refl;
    length = is.length ∙ sym (length-replicate n None);
    solves = record { bits = λ i e h. absurd (none-some e (sym (none_leads n i) ∙ h)) };
  };
}

all_before : (P : List Bool → Type 0) (rows : List (List Bool)) (row : List Bool) → All P (rows ++ row ∷ []) → All P rows
all_before P rows row all = subst (All P) (take_at rows (row ∷ []) (length rows) refl) (All-take P (length rows) (rows ++ row ∷ []) all)

last_of : (P : List Bool → Type 0) (rows : List (List Bool)) (row : List Bool) → All P (rows ++ row ∷ []) → P row
last_of P rows row all =
    subst P (get_or_push rows row [] (length rows) refl)
    (All-get_or P (rows ++ row ∷ []) (length rows) [] (omega (arith, length_push rows row)) all)

-- the row that is added has the bits of a solution alone
pub stands_more : (old new : Kept) (row : List Bool)
    → IsNarrowed old (record { row = take (width_of old) row; sum = false }) new → HasRowMore old row new
stands_more old new row narrowed = record {
  stands = λ n rows stands.
      let same : (x : List Bool) → length x ≡ n → sum_of (take (width_of old) row) x ≡ sum_of row x = λ x long.
      let wide : width_of old ≡ n = stands.width in sum_of-take (width_of old) row x (omega arith) in
      record {
        width = narrowed.width ∙ stands.width;
        sound = λ x has.
            let before = stands.sound x (narrowed.before x has) in
            let sums = All-push (λ row. sum_of row x ≡ false) rows row before.sums (sym (same x before.length) ∙ narrowed.met x has) in
            record { length = before.length; sums = sums };
        complete = λ x is.
            let before : IsSolution n rows x = record { length = is.length; sums = all_before (λ row. sum_of row x ≡ false) rows row is.sums } in
            narrowed.stays x (stands.complete x before) (same x is.length ∙ last_of (λ row. sum_of row x ≡ false) rows row is.sums);
      };
}

-- the sum of a row with one 1
one_bit : (place : ℕ) (x : List Bool) → sum_of (replicate place false ++ true ∷ []) x ≡ bit x place
one_bit place x =
    sum_of-push (replicate place false) x true
    ∙ ap (λ b. plus b (bit x (length (replicate place false)))) (sum_of-zeros place x)
    ∙ ap (bit x) (length-replicate place false)

pub fixed_by : (old new : Kept) (place : ℕ) (value : Bool) (row : List Bool)
    → row ≡ replicate place false ++ true ∷ [] → IsNarrowed old (record { row = row; sum = value }) new → IsFixed old place value new
fixed_by old new place value row one narrowed = record {
  width = narrowed.width;
  before = narrowed.before;
  fixed = λ x has. same_bits value (bit x place) (ap (plus value) (sym (is x)) ∙ narrowed.met x has);
  stays = λ x has same. narrowed.stays x has (ap (plus value) (is x ∙ same) ∙ plus_self value);
}
  where
    is : (x : List Bool) → sum_of row x ≡ bit x place
    is x = ap (λ row. sum_of row x) one ∙ one_bit place x

pub excluded : (system : Kept) (place : ℕ) (value : Bool) (row : List Bool)
    → row ≡ replicate place false ++ true ∷ [] → HasGap system.rows (record { row = row; sum = value }) true → Excludes system place value
excluded system place value row one gap = record {
  none = λ x has same. false≢true (sym (plus_self value) ∙ sym (ap (plus value) (ap (λ row. sum_of row x) one ∙ one_bit place x ∙ same)) ∙ gap.same x has.solves);
}
