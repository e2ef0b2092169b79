-- The names of the files that a run creates are all different.
use Rattle.std.proofs.Common.{◌≡◌, ◌≢◌, inl, inr, ℕ, ◌+◌, ◌<◌, ◌≤◌, Bool, true, false, cond, ltb, List, [], ◌∷◌, ◌++◌, get_or, codes, decimal, nat_eq, nat_lt, if◌then◌else◌, refl, ap, sym, ◌∙◌, append_assoc, arith}
use Rattle.std.proofs.lemmas.List.{append_cancel_left}
use Rattle.std.proofs.lemmas.Bool.{lt-ltb, le-ltb, ne_eqb, eq-eqb, cases_lt, cases_eq}
use Rattle.std.proofs.lemmas.Fmt.{decimal_digit}
use Rattle.capture_format.specs.declared.format.CaptureFormat.{CaptureFormat}
use Rattle.call_base.specs.Names.{name_at, output_end}

-- what stands behind the front of a name
abbrev tail_at : CaptureFormat → ℕ → ℕ → List ℕ
tail_at format ports k =
    if nat_lt k ports then codes "." ++ decimal k ++ output_end format
    else if nat_eq k ports then codes ".journal"
    else codes ".state"

tail_if : (format : CaptureFormat) (out : List ℕ) (a b : Bool) (k : ℕ) →
    (if a then out ++ codes "." ++ decimal k ++ output_end format else if b then out ++ codes ".journal" else out ++ codes ".state")
    ≡ out ++ (if a then codes "." ++ decimal k ++ output_end format else if b then codes ".journal" else codes ".state")
tail_if format out true b k = append_assoc (out ++ codes ".") (decimal k) (output_end format) ∙ append_assoc out (codes ".") (decimal k ++ output_end format) ∙ ap (λ (t : List ℕ). out ++ t) (sym (append_assoc (codes ".") (decimal k) (output_end format)))
tail_if format out false true k = refl
tail_if format out false false k = refl

name_is : (format : CaptureFormat) (out : List ℕ) (ports k : ℕ) → name_at format out ports k ≡ out ++ tail_at format ports k
unfolding name_at
name_is format out ports k = tail_if format out (nat_lt k ports) (nat_eq k ports) k

-- the second byte of that
abbrev mark : Bool → Bool → ℕ → ℕ
mark a b k = if a then 48 + k else if b then 106 else 115

mark_if : (format : CaptureFormat) (a b : Bool) (k : ℕ) → k < 10 → get_or (if a then codes "." ++ decimal k ++ output_end format else if b then codes ".journal" else codes ".state") 1 0 ≡ mark a b k
mark_if format true b k small = ap (λ (ds : List ℕ). get_or (codes "." ++ ds ++ output_end format) 1 0) (decimal_digit k small)
mark_if format false true k small = refl
mark_if format false false k small = refl

marked : (format : CaptureFormat) (ports k : ℕ) → k < 10 → get_or (tail_at format ports k) 1 0 ≡ mark (nat_lt k ports) (nat_eq k ports) k
marked format ports k small = mark_if format (nat_lt k ports) (nat_eq k ports) k small

mark_output : (ports k : ℕ) → k < ports → mark (nat_lt k ports) (nat_eq k ports) k ≡ 48 + k
mark_output ports k lt = ap (λ (b : Bool). mark b (nat_eq k ports) k) (lt-ltb k ports lt)

mark_journal : (ports k : ℕ) → k ≡ ports → mark (nat_lt k ports) (nat_eq k ports) k ≡ 106
mark_journal ports k same =
    ap (λ (b : Bool). mark b (nat_eq k ports) k) (le-ltb k ports (omega (arith, same))) ∙ ap (λ (b : Bool). mark false b k) (eq-eqb k ports same)

mark_state : (ports k : ℕ) → ports < k → mark (nat_lt k ports) (nat_eq k ports) k ≡ 115
mark_state ports k past =
    ap (λ (b : Bool). mark b (nat_eq k ports) k) (le-ltb k ports (omega (arith, past))) ∙ ap (λ (b : Bool). mark false b k) (ne_eqb k ports (λ e. omega (arith, past, e)))

marks_apart : (ports i j : ℕ) → ports ≤ 4 → i ≤ ports + 1 → j ≤ ports + 1 → i < j → mark (nat_lt i ports) (nat_eq i ports) i ≢ mark (nat_lt j ports) (nat_eq j ports) j
marks_apart ports i j few within other less e = elim (cases_lt j ports) [
  | inl output ↦ omega (arith, e, less, mark_output ports j output, mark_output ports i (omega (arith, less, output)))
  | inr past ↦ elim (cases_lt i ports) [
    | inl output ↦ elim (cases_eq j ports) [
      | inl same ↦ omega (arith, e, few, output, mark_output ports i output, mark_journal ports j same)
      | inr ne ↦ omega (arith, e, few, output, mark_output ports i output, mark_state ports j (omega (arith, past, ne)))
    ]
    | inr behind ↦ omega (arith, e, mark_journal ports i (omega (arith, behind, less, other)), mark_state ports j (omega (arith, behind, less)))
  ]
]

below_apart : (format : CaptureFormat) (out : List ℕ) (ports i j : ℕ) → ports ≤ 4 → i ≤ ports + 1 → j ≤ ports + 1 → i < j → name_at format out ports i ≢ name_at format out ports j
below_apart format out ports i j few within other less e =
    let tails : tail_at format ports i ≡ tail_at format ports j = append_cancel_left out (tail_at format ports i) (tail_at format ports j) (sym (name_is format out ports i) ∙ e ∙ name_is format out ports j) in
    marks_apart ports i j few within other less
    (sym (marked format ports i (omega (arith, few, within))) ∙ ap (λ (t : List ℕ). get_or t 1 0) tails ∙ marked format ports j (omega (arith, few, other)))

-- the files of two places have two names
pub names_apart : (format : CaptureFormat) (out : List ℕ) (ports i j : ℕ) → ports ≤ 4 → i ≤ ports + 1 → j ≤ ports + 1 → i ≢ j → name_at format out ports i ≢ name_at format out ports j
names_apart format out ports i j few within other ne e = elim (cases_lt i j) [
  | inl less ↦ below_apart format out ports i j few within other less e
  | inr past ↦ below_apart format out ports j i few other within (omega (arith, past, ne)) (sym e)
]
