-- From certificates over places to a function's verdict.
use Rattle.std.proofs.Common.{ℕ, refl, sym, length, subst, ◌≤◌, ◌||◌, Bool, true, false, List, Some, None, if◌then◌else◌, arith}
use Rattle.nf_base.specs.declared.card.Card.{Card}
use Rattle.nf_base.specs.declared.packet.Family.TheVariants.{Six}
use Rattle.nf_base.specs.Doors.{has_six, six_ports, six_at}
use Rattle.nf_base.specs.Text.{Function}
use Rattle.key_rows.specs.declared.place.Object.{Object}
use Rattle.key_rows.specs.Given as given
use Rattle.key_rows.specs.Keyed.{is_keyed_for}
use Rattle.key_rows.specs.Positions.{positions_at}
use Rattle.shard_rules.specs.Served.{own_plan}
use Rattle.std.proofs.lemmas.List.{length-map}
use Rattle.key_synth.proofs.Tied.{answered}
use Rattle.certificate_laws.specs.Verdicts.{LockedIsVerdict, GivenIsVerdict}
use Rattle.certificate_laws.proofs.Answering.{locked_is_locked, given_are_given}

-- so many positions at most
pub at_most : (six : List Bool) (objects : List Object) (port : ℕ) → positions_at six objects port ≤ 319
at_most six objects port = by_test (six_at six port || is_keyed_for objects Six port)
  where
    by_test : (b : Bool) → (if b then 319 else 127) ≤ 319
    by_test true = omega arith
    by_test false = omega arith

pub locked_is_verdict : LockedIsVerdict
locked_is_verdict f card rows why is cause = (
  answered f card (own_plan f) (six_ports f) (own_plan f).objects None refl refl refl
      (subst (λ (n : ℕ). given.NoneMayBeGiven n (own_plan f).objects card) (sym (length-map f.handlers has_six)) (locked_is_locked (length f.handlers) (own_plan f).objects card rows is)),
  cause,
)

pub given_is_verdict : GivenIsVerdict
given_is_verdict f card rows keys is =
    answered f card (own_plan f) (six_ports f) (own_plan f).objects (Some keys) refl refl refl
    (subst (λ (n : ℕ). given.AreGiven (positions_at (six_ports f) (own_plan f).objects) n (own_plan f).objects card keys) (sym (length-map f.handlers has_six))
    (given_are_given (positions_at (six_ports f) (own_plan f).objects) (length f.handlers) (own_plan f).objects card rows keys (at_most (six_ports f) (own_plan f).objects) is))
