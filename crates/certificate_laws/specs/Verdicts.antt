-- Certificates over a function: what they say of its verdict.
use Rattle.std.specs.Prelude.{ℕ, List, length}
use Rattle.nf_base.specs.declared.card.Card.{Card}
use Rattle.nf_base.specs.declared.keys.Keys.{Keys}
use Rattle.nf_base.specs.Doors.{six_ports}
use Rattle.nf_base.specs.Text.{Function}
use Rattle.shard_rules.specs.Served.{own_plan}
use Rattle.key_rows.specs.Positions.{positions_at}
use Rattle.key_synth.specs.declared.verdict.Cause.{Cause}
use Rattle.key_synth.specs.declared.verdict.Verdict.TheVariants.{Sharded, Locked}
use Rattle.key_synth.specs.Verdicts.{IsCause, IsVerdict}
use Rattle.certificate_laws.specs.Certificates.{IsLockedBy, AreGivenBy}

-- A function is locked, by its own cause, where a certificate says that there are no keys.
abbrev pub LockedIsVerdict : Type 0
LockedIsVerdict =
    (f : Function) (card : Card) (rows : List (List ℕ)) (why : Cause) →
    IsLockedBy (length f.handlers) (own_plan f).objects card rows
    → IsCause f.objects (own_plan f).standings why → IsVerdict f card (Locked why)

-- It is sharded with keys where a certificate says that they are the given ones.
abbrev pub GivenIsVerdict : Type 0
GivenIsVerdict =
    (f : Function) (card : Card) (rows : List (List ℕ)) (keys : Keys) →
    AreGivenBy (positions_at (six_ports f) (own_plan f).objects) (length f.handlers)
    (own_plan f).objects card rows keys
    → IsVerdict f card (Sharded keys)
