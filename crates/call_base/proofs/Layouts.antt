-- Which file of a call has which number.
use Rattle.std.proofs.Common.{◌≡◌, ◌≢◌, ◌⊎◌, inl, inr, ℕ, ◌+◌, ◌-◌, ◌<◌, ◌≤◌, List, nat_eq, if◌then◌else◌, Err, refl, ap, sym, subst, ◌∙◌, arith}
use Rattle.std.proofs.lemmas.Bool.{le-leb, lt-leb, lt-ltb, le-ltb, ne_eqb, eq-eqb, cases_eq, cases_lt}
use Rattle.std.proofs.Math.Nat.{eq-or-lt_of_le}
use Rattle.stream_run.specs.declared.fault.RunFault.{RunFault}
use Rattle.stream_run.specs.declared.fault.RunFault.TheVariants as numbered
use Rattle.stream_run.specs.Writing.{StopsAt, StopsAmong}
use Rattle.call_base.specs.declared.layout.FileOrder.{FileOrder}
use Rattle.call_base.specs.declared.layout.FileOrder.TheVariants.{Created, Read}
use Rattle.call_base.specs.declared.status.RunFile.{RunFile}
use Rattle.call_base.specs.declared.status.RunFile.TheVariants.{Nf, Capture, Journal, Output, OutJournal, State, Proof, Stdout, Stderr}
use Rattle.call_base.specs.Numbers.{Numbering}
use Rattle.call_base.specs.Layout.{file_behind, opened_file, file_of, number_of, numbering, stop_named}
use Rattle.call_base.specs.Far.{IsFar, IsFarAt}
use Rattle.call_base.specs.Reading.{AreFrom}

pub file_first : (behind : FileOrder) (first captures ports : ℕ) → file_of behind first captures ports first ≡ Nf
file_first behind first captures ports =
    ap (λ b. if b then Nf else if nat_eq first 0 then Stdout else if nat_eq first 1 then Stderr else opened_file behind captures ports (first - first)) (eq-eqb first first refl)

pub file_stdout : (behind : FileOrder) (first captures ports : ℕ) → 2 ≤ first → file_of behind first captures ports 0 ≡ Stdout
file_stdout behind first captures ports two = ap (λ b. if b then Nf else Stdout) (ne_eqb 0 first (λ e. omega (arith, e, two)))

file_opened : (behind : FileOrder) (first captures ports number place : ℕ) → 2 ≤ first → number ≡ first + place → 1 ≤ place → file_of behind first captures ports number ≡ opened_file behind captures ports place
file_opened behind first captures ports number place two at some =
    ap (λ b. if b then Nf else if nat_eq number 0 then Stdout else if nat_eq number 1 then Stderr else opened_file behind captures ports (number - first)) (ne_eqb number first (λ e. omega (arith, e, at, some)))
    ∙ ap (λ b. if b then Stdout else if nat_eq number 1 then Stderr else opened_file behind captures ports (number - first)) (ne_eqb number 0 (λ e. omega (arith, e, at, two)))
    ∙ ap (λ b. if b then Stderr else opened_file behind captures ports (number - first)) (ne_eqb number 1 (λ e. omega (arith, e, at, two)))
    ∙ ap (opened_file behind captures ports) (omega (arith, at))

pub file_capture : (behind : FileOrder) (first captures ports number i : ℕ) → 2 ≤ first → number ≡ first + 1 + i → i < captures → file_of behind first captures ports number ≡ Capture i
file_capture behind first captures ports number i two at lt =
    let back : 1 + i - 1 ≡ i = omega arith in
    file_opened behind first captures ports number (1 + i) two (omega (arith, at)) (omega arith)
    ∙ ap (λ b. if b then Capture (1 + i - 1) else file_behind behind ports (1 + i - captures - 1)) (le-leb (1 + i) captures (omega (arith, lt)))
    ∙ ap (λ (p : ℕ). Capture p) back

pub file_other : (behind : FileOrder) (first captures ports number k : ℕ) → 2 ≤ first → number ≡ first + 1 + captures + k → file_of behind first captures ports number ≡ file_behind behind ports k
file_other behind first captures ports number k two at =
    let back : 1 + captures + k - captures - 1 ≡ k = omega arith in
    file_opened behind first captures ports number (1 + captures + k) two (omega (arith, at)) (omega arith)
    ∙ ap (λ b. if b then Capture (1 + captures + k - 1) else file_behind behind ports (1 + captures + k - captures - 1)) (lt-leb (1 + captures + k) captures (omega arith))
    ∙ ap (file_behind behind ports) back

-- ---- what stands behind the captures

created_output : (ports k : ℕ) → k < ports → file_behind Created ports k ≡ Output k
created_output ports k lt = ap (λ b. if b then Output k else if nat_eq k ports then OutJournal else State) (lt-ltb k ports lt)

created_journal : (ports k : ℕ) → k ≡ ports → file_behind Created ports k ≡ OutJournal
created_journal ports k e =
    ap (λ b. if b then Output k else if nat_eq k ports then OutJournal else State) (le-ltb k ports (omega (arith, e)))
    ∙ ap (λ b. if b then OutJournal else State) (eq-eqb k ports e)

created_state : (ports k : ℕ) → k ≡ ports + 1 → file_behind Created ports k ≡ State
created_state ports k e =
    ap (λ b. if b then Output k else if nat_eq k ports then OutJournal else State) (le-ltb k ports (omega (arith, e)))
    ∙ ap (λ b. if b then OutJournal else State) (ne_eqb k ports (λ z. omega (arith, z, e)))

pub read_journal : (ports k : ℕ) → k ≡ 0 → file_behind Read ports k ≡ Journal
read_journal ports k e = ap (λ b. if b then Journal else Output (k - 1)) (eq-eqb k 0 e)

pub read_output : (ports k : ℕ) → k ≢ 0 → file_behind Read ports k ≡ Output (k - 1)
read_output ports k ne = ap (λ b. if b then Journal else Output (k - 1)) (ne_eqb k 0 ne)

placed : (ports k : ℕ) → k ≤ ports + 1 → (k < ports) ⊎ ((k ≡ ports) ⊎ (k ≡ ports + 1))
placed ports k le = elim (cases_lt k ports) [
  | inl lt ↦ inl lt
  | inr more ↦ inr (elim (cases_eq k ports) [
    | inl same ↦ inl same
    | inr ne ↦ inr (omega (arith, le, more, ne))
  ])
]

-- ---- the number of the file that a number is of is this number

-- a fault at a number is one of the file of that number, which is the number of that file
abbrev pub IsNumbered : Numbering → RunFault → Type 0
IsNumbered n (numbered.File number) = n.number_of (n.file_of number) ≡ number
IsNumbered n numbered.Memory = Unit {0}

pub own_capture : (behind : FileOrder) (first captures ports number i : ℕ) → 2 ≤ first → number ≡ first + 1 + i → i < captures → IsNumbered (numbering behind first captures ports) (numbered.File number)
own_capture behind first captures ports number i two at lt = ap (number_of behind first captures ports) (file_capture behind first captures ports number i two at lt) ∙ sym at

number_created : (first captures ports k : ℕ) → (k < ports) ⊎ ((k ≡ ports) ⊎ (k ≡ ports + 1)) → number_of Created first captures ports (file_behind Created ports k) ≡ first + 1 + captures + k
number_created first captures ports k (inl lt) = ap (number_of Created first captures ports) (created_output ports k lt)
number_created first captures ports k (inr (inl e)) = ap (number_of Created first captures ports) (created_journal ports k e) ∙ ap (λ (n : ℕ). first + 1 + captures + n) (sym e)
number_created first captures ports k (inr (inr e)) = ap (number_of Created first captures ports) (created_state ports k e) ∙ ap (λ (n : ℕ). first + 1 + captures + n) (sym e)

pub own_created : (first captures ports number k : ℕ) → 2 ≤ first → number ≡ first + 1 + captures + k → k ≤ ports + 1 → IsNumbered (numbering Created first captures ports) (numbered.File number)
own_created first captures ports number k two at le =
    ap (number_of Created first captures ports) (file_other Created first captures ports number k two at) ∙ number_created first captures ports k (placed ports k le) ∙ sym at

number_read : (first captures ports k : ℕ) → (k ≡ 0) ⊎ (k ≢ 0) → number_of Read first captures ports (file_behind Read ports k) ≡ first + 1 + captures + k
number_read first captures ports k (inl e) =
    let none : first + 1 + captures ≡ first + 1 + captures + k = omega (arith, e) in
    ap (number_of Read first captures ports) (read_journal ports k e) ∙ none
number_read first captures ports k (inr ne) =
    let more : first + 1 + captures + (1 + (k - 1)) ≡ first + 1 + captures + k = omega (arith, ne) in
    ap (number_of Read first captures ports) (read_output ports k ne) ∙ more

pub own_read : (first captures ports number k : ℕ) → 2 ≤ first → number ≡ first + 1 + captures + k → IsNumbered (numbering Read first captures ports) (numbered.File number)
own_read first captures ports number k two at =
    ap (number_of Read first captures ports) (file_other Read first captures ports number k two at) ∙ number_read first captures ports k (cases_eq k 0) ∙ sym at

own_stdout : (behind : FileOrder) (first captures ports : ℕ) → 2 ≤ first → number_of behind first captures ports (file_of behind first captures ports 0) ≡ 0
own_stdout behind first captures ports two = ap (number_of behind first captures ports) (file_stdout behind first captures ports two)

pub own_printed : (behind : FileOrder) (first captures ports : ℕ) (stop : RunFault) → 2 ≤ first → StopsAt {T = Unit {0}} 0 (Err stop) → IsNumbered (numbering behind first captures ports) stop
own_printed behind first captures ports numbered.Memory two at = tt
own_printed behind first captures ports (numbered.File number) two at = subst (λ (g : ℕ). IsNumbered (numbering behind first captures ports) (numbered.File g)) (sym at) (own_stdout behind first captures ports two)

-- ---- how far a run came that a file stopped

-- a capture, behind all that is created but the state
far_capture : (ended stated : Type 0) (first captures ports number i full : ℕ) → 2 ≤ first → number ≡ first + 1 + i → i < captures → IsFarAt ended stated ports (file_of Created first captures ports number) (ports + 1) full
far_capture ended stated first captures ports number i full two at lt =
    subst (λ (f : RunFile). IsFarAt ended stated ports f (ports + 1) full) (sym (file_capture Created first captures ports number i two at lt)) refl

-- an output or the journal
far_place : (ended stated : Type 0) (ports k made full : ℕ) → (k < ports) ⊎ ((k ≡ ports) ⊎ (k ≡ ports + 1)) → k ≤ ports → k ≤ made → made ≤ ports + 1 → IsFarAt ended stated ports (file_behind Created ports k) made full
far_place ended stated ports k made full (inl lt) le less within = subst (λ (f : RunFile). IsFarAt ended stated ports f made full) (sym (created_output ports k lt)) (less, within)
far_place ended stated ports k made full (inr (inl e)) le less within =
    subst (λ (f : RunFile). IsFarAt ended stated ports f made full) (sym (created_journal ports k e)) (omega (arith, e, less), within)
far_place ended stated ports k made full (inr (inr e)) le less within = absurd (omega (arith, e, le))

pub far_created : (ended stated : Type 0) (first captures ports number k made full : ℕ) → 2 ≤ first → number ≡ first + 1 + captures + k → k ≤ ports → k ≤ made → made ≤ ports + 1 → IsFarAt ended stated ports (file_of Created first captures ports number) made full
far_created ended stated first captures ports number k made full two at le less within =
    subst (λ (f : RunFile). IsFarAt ended stated ports f made full) (sym (file_other Created first captures ports number k two at)) (far_place ended stated ports k made full (placed ports k (omega (arith, le))) le less within)

-- the state
pub far_state : (ended stated : Type 0) (first captures ports number made full : ℕ) → 2 ≤ first → number ≡ first + 1 + captures + (ports + 1) → ports + 1 ≤ full → stated → IsFarAt ended stated ports (file_of Created first captures ports number) made full
far_state ended stated first captures ports number made full two at whole leaves =
    subst (λ (f : RunFile). IsFarAt ended stated ports f made full) (sym (file_other Created first captures ports number (ports + 1) two at ∙ created_state ports (ports + 1) refl)) (whole, leaves)

-- standard output
pub far_printed : (ended stated : Type 0) (first captures ports made full : ℕ) (stop : RunFault) → 2 ≤ first → ended → StopsAt {T = Unit {0}} 0 (Err stop) → IsFar ended stated ports (stop_named (numbering Created first captures ports) stop) made full
far_printed ended stated first captures ports made full numbered.Memory two whole at = tt
far_printed ended stated first captures ports made full (numbered.File number) two whole at =
    subst (λ (g : ℕ). IsFarAt ended stated ports (file_of Created first captures ports g) made full) (sym at)
    (subst (λ (f : RunFile). IsFarAt ended stated ports f made full) (sym (file_stdout Created first captures ports two)) whole)

-- ---- a stop by one of these files

-- while packets are handled
pub running : (ended stated : Type 0) (first captures ports : ℕ) (files targets : List ℕ) (stop : RunFault) → 2 ≤ first → AreFrom (first + 1) files captures → AreFrom (first + 1 + captures) targets (ports + 1) → StopsAmong {T = Unit {0}} files targets (Err stop)
    → IsNumbered (numbering Created first captures ports) stop × IsFar ended stated ports (stop_named (numbering Created first captures ports) stop) (ports + 1) 0
running ended stated first captures ports files targets numbered.Memory two are behind among = (tt, tt)
running ended stated first captures ports files targets (numbered.File number) two are behind (inl one) =
    let at = are one.0 number one.1 in
    (own_capture Created first captures ports number one.0 two at.0 at.1, far_capture ended stated first captures ports number one.0 0 two at.0 at.1)
running ended stated first captures ports files targets (numbered.File number) two are behind (inr one) =
    let at = behind one.0 number one.1 in (
      own_created first captures ports number one.0 two at.0 (omega (arith, at.1)),
      far_created ended stated first captures ports number one.0 (ports + 1) 0 two at.0 (omega (arith, at.1)) (omega (arith, at.1)) (omega arith),
    )
