-- The nearest solution, bit by bit.
use Rattle.std.proofs.Common.{◌≡◌, ◌≢◌, ℕ, ◌+◌, ◌<◌, ◌≤◌, refl, sym, ap, ◌∙◌, inl, inr, ◌⊎◌, Bool, List, length, Some, None, arith}
use Rattle.std.proofs.lemmas.Bool.{cases_lt}
use Rattle.gf2_solve.specs.Sums.{bit}
use Rattle.gf2_solve.specs.Solutions.{IsAdmissible, AgreeBelow, IsNearest}
use Rattle.gf2_solve.specs.Kept.{Kept, HasSolution, StandsFor, Answers}
use Rattle.gf2_solve.specs.Searches.{IsFixed, Excludes, IsAmong, NoneIsAmong, IsCloser}

-- no solution with a 1 in each group that agrees with x below i has the wanted bit there
pub record IsPast (system : Kept) (groups : List (List Bool)) (wanted x : List Bool) (i : ℕ) : Type 0 where
  pub none : (y : List Bool) → IsAmong system groups y → AgreeBelow i x y → bit y i ≢ bit wanted i

-- The first i bits are chosen: what is left are the solutions that agree on them.
pub record IsClosing (system : Kept) (groups : List (List Bool)) (wanted best : List Bool) (i : ℕ) (left : Kept) : Type 0 where
  pub width : length left.rows ≡ length system.rows
  pub among : IsAmong left groups best
  pub before : (y : List Bool) → HasSolution left y → HasSolution system y
  pub agree : (y : List Bool) → HasSolution left y → AgreeBelow i best y
  pub stays : (y : List Bool) → HasSolution system y → AgreeBelow i best y → HasSolution left y
  pub nearest : (j : ℕ) → j < i → (bit best j ≡ bit wanted j) ⊎ IsPast system groups wanted best j

pub closing_none : (system : Kept) (groups : List (List Bool)) (wanted best : List Bool)
    → IsAmong system groups best → IsClosing system groups wanted best 0 system
closing_none system groups wanted best among = record {
  width = refl;
  among = among;
  before = λ y h. h;
  agree = λ y h. record { bits = λ j below. absurd (omega arith) };
  stays = λ y h agree. h;
  nearest = λ j below. absurd (omega arith);
}

pub closing_more : (system left next : Kept) (groups : List (List Bool)) (wanted best better : List Bool) (i : ℕ)
    → IsClosing system groups wanted best i left → IsCloser left groups wanted i better → IsFixed left i (bit better i) next
    → IsClosing system groups wanted better (i + 1) next
closing_more system left next groups wanted best better i closing closer fixed = record {
  width = fixed.width ∙ closing.width;
  among = record { solution = fixed.stays better closer.among.solution refl; met = closer.among.met };
  before = λ y h. closing.before y (fixed.before y h);
  agree = λ y h. record {
    bits = λ j below. elim (cases_lt j i) [
      | inl before ↦ sym (same j before) ∙ (closing.agree y (fixed.before y h)).bits j before
      | inr behind ↦ let here : j ≡ i = omega arith in ap (bit better) here ∙ sym (fixed.fixed y h) ∙ ap (bit y) (sym here)
    ];
  };
  stays = λ y h agree.
      fixed.stays y
      (closing.stays y h (record { bits = λ j before. same j before ∙ agree.bits j (omega arith) }))
      (sym (agree.bits i (omega arith)));
  nearest = λ j below. elim (cases_lt j i) [
    | inl before ↦ elim (closing.nearest j before) [
      | inl is ↦ inl (sym (same j before) ∙ is)
      | inr past ↦ inr (record {
        none = λ y among agree. past.none y among (record { bits = λ k h. same k (omega arith) ∙ agree.bits k h });
      })
    ]
    | inr behind ↦ let here : j ≡ i = omega arith in elim closer.closer [
      | inl is ↦ inl (ap (bit better) here ∙ is ∙ ap (bit wanted) (sym here))
      | inr none ↦ inr (record {
        none = λ y among agree is.
            let there : HasSolution left y = closing.stays y among.solution (record { bits = λ k h. same k h ∙ agree.bits k (omega arith) }) in
            none.none y (record { solution = there; met = among.met }) (ap (bit y) (sym here) ∙ is ∙ ap (bit wanted) here);
      })
    ]
  ];
}
  where
    -- the better one agrees with the best so far
    same : (j : ℕ) → j < i → bit best j ≡ bit better j
    same = (closing.agree better closer.among.solution).bits

admitted : (system : Kept) (n : ℕ) (rows groups : List (List Bool)) (y : List Bool) → StandsFor system n rows → IsAdmissible n rows groups y → IsAmong system groups y
admitted system n rows groups y stands is = record { solution = stands.complete y is.solution; met = is.met }

closing_all : (system left : Kept) (n : ℕ) (rows groups : List (List Bool)) (wanted best : List Bool) (i : ℕ)
    → StandsFor system n rows → length system.rows ≤ i → IsClosing system groups wanted best i left → IsNearest n rows groups wanted best
closing_all system left n rows groups wanted best i stands all closing = record {
  admissible = record { solution = stands.sound best (closing.before best closing.among.solution); met = closing.among.met };
  nearest = λ j below.
      let wide : length system.rows ≡ n = stands.width in
      elim (closing.nearest j (omega arith)) [
        | inl is ↦ inl is
        | inr past ↦ inr (record { none = λ y is. past.none y (admitted system n rows groups y stands is) })
      ];
}

pub answers_found : (system left : Kept) (groups : List (List Bool)) (wanted best : List Bool) (i : ℕ)
    → length system.rows ≤ i → IsClosing system groups wanted best i left → Answers system groups wanted (Some best)
answers_found system left groups wanted best i all closing = record {
  is = λ n rows stands. closing_all system left n rows groups wanted best i stands all closing;
}

pub answers_none : (system : Kept) (groups : List (List Bool)) (wanted : List Bool) → NoneIsAmong system groups → Answers system groups wanted None
answers_none system groups wanted none = record {
  is = λ n rows stands. record { none = λ x is. none.none x (admitted system n rows groups x stands is) };
}

-- three ways to a closer one
pub closer_same : (system : Kept) (groups : List (List Bool)) (wanted best : List Bool) (place : ℕ)
    → IsAmong system groups best → bit best place ≡ bit wanted place → IsCloser system groups wanted place best
closer_same system groups wanted best place among same = record { among = among; closer = inl same }

pub closer_found : (system other : Kept) (groups : List (List Bool)) (wanted found : List Bool) (place : ℕ)
    → IsFixed system place (bit wanted place) other → IsAmong other groups found → IsCloser system groups wanted place found
closer_found system other groups wanted found place fixed among = record {
  among = record { solution = fixed.before found among.solution; met = among.met };
  closer = inl (fixed.fixed found among.solution);
}

pub closer_none : (system other : Kept) (groups : List (List Bool)) (wanted best : List Bool) (place : ℕ)
    → IsFixed system place (bit wanted place) other → NoneIsAmong other groups → IsAmong system groups best → IsCloser system groups wanted place best
closer_none system other groups wanted best place fixed none among = record {
  among = among;
  closer = inr (record { none = λ y is same. none.none y (record { solution = fixed.stays y is.solution same; met = is.met }) });
}

pub closer_excluded : (system : Kept) (groups : List (List Bool)) (wanted best : List Bool) (place : ℕ)
    → IsAmong system groups best → Excludes system place (bit wanted place) → IsCloser system groups wanted place best
closer_excluded system groups wanted best place among excludes = record {
  among = among;
  closer = inr (record { none = λ y is. excludes.none y is.solution });
}
