use Rattle.std.proofs.Common.{◌≡◌, ◌≢◌, ◌≤◌, ◌<◌, ◌+◌, ◌-◌, ◌*◌, ◌/◌, ◌∙◌, ◌⊎◌, inl, inr, ℕ, Bool, false, ◌&&◌, eqb, List, length, take, drop, refl, sym, ap, subst, arith, rules}
use Rattle.std.proofs.lemmas.List.{take_all, length-drop}
use Rattle.std.proofs.lemmas.Bool.Decides.{nat_tests}
use Rattle.pcap_file.specs.declared.form.Endian.{Endian}
use Rattle.pcapng_file.specs.Options.{short_in, length_in, resolution_in}
use Rattle.pcapng_file.proofs.Options.{option_ended, option_unfit, option_unit, option_other}
use Rattle.pcapng_file.proofs.resolution.first_option.Goals as goal

size_is : (order : Endian) (bytes : List ℕ) (n : ℕ) → n ≡ short_in order (take (length bytes - 2) (drop 2 bytes)) → n ≡ length_in order bytes
size_is order bytes n e = e ∙ ap (short_in order) (take_all (length bytes - 2) (drop 2 bytes) (omega (arith, length-drop 2 bytes)))

no_unit : (code size : ℕ) → ((code ≡ 9) × (size ≢ 1)) ⊎ (code ≢ 9) → (eqb code 9 && eqb size 1) ≡ false
no_unit code size h = grind (arith, nat_tests)

pub returns-then-code-eq0-clause-value : goal.returns-then-code-eq0-clause-value
returns-then-code-eq0-clause-value c = option_ended c.args.order c.args.bytes.now c.requires (sym c.short-code.ensures ∙ c.if-code-eq0.true)

pub returns-then-bytes-size-clause-value : goal.returns-then-bytes-size-clause-value
returns-then-bytes-size-clause-value c =
    let size = size_is c.args.order c.args.bytes.now c.short-size.result c.short-size.ensures in
    option_unfit c.args.order c.args.bytes.now c.requires (omega (arith, size, c.if-bytes-size.true))

pub returns-then-size-eq-UNIT_LENGTH-clause-value : goal.returns-then-size-eq-UNIT_LENGTH-clause-value
returns-then-size-eq-UNIT_LENGTH-clause-value c =
    let size = size_is c.args.order c.args.bytes.now c.short-size.result c.short-size.ensures in
    option_unit c.args.order c.args.bytes.now (omega (arith, size, c.if-bytes-size.false)) (sym c.short-code.ensures ∙ c.if-code-eq-RESOLUTION.true) (sym size ∙ c.if-size-eq-UNIT_LENGTH.true)

pub returns-else-code-eq-RESOLUTION-clause-value : goal.returns-else-code-eq-RESOLUTION-clause-value
returns-else-code-eq-RESOLUTION-clause-value c =
    let size = size_is c.args.order c.args.bytes.now c.short-size.result c.short-size.ensures in
    let other = no_unit c.short-code.result c.short-size.result c.else-code-eq-RESOLUTION.either in
    option_other c.args.order c.args.bytes.now (omega (arith, size, c.if-bytes-size.false)) (λ e. c.if-code-eq0.false (c.short-code.ensures ∙ e))
    (subst (λ (n : ℕ). (eqb n 9 && eqb (length_in c.args.order c.args.bytes.now) 1) ≡ false) c.short-code.ensures (subst (λ (n : ℕ). (eqb c.short-code.result 9 && eqb n 1) ≡ false) size other))
    ∙ ap (λ (n : ℕ). resolution_in c.args.order (drop (4 + (n + 3) / 4 * 4) c.args.bytes.now)) (sym size)
