-- What admissible keys are worth.
use Rattle.std.specs.Prelude.{◌≡◌}
use Rattle.nf_base.specs.declared.card.Card.{Card}
use Rattle.nf_base.specs.declared.keys.Keys.{Keys}
use Rattle.nf_base.specs.Text.{Function}
use Rattle.toeplitz_hash.specs.Meeting.{HashAlikeWhereTheyMeet}
use Rattle.key_synth.specs.Keys.{AreAdmissible, AreGiven}

-- under admissible keys two packets that meet in a run have equal hashes
abbrev pub MeetingPacketsHashAlike : Type 0
MeetingPacketsHashAlike =
    (f : Function) (keys : Keys) → AreAdmissible f keys → HashAlikeWhereTheyMeet f keys

-- two given keys of a function, for one card, are equal
abbrev pub GivenKeysAreOne : Type 0
GivenKeysAreOne =
    (f : Function) (card : Card) (keys other : Keys) →
    AreGiven f card keys → AreGiven f card other → keys ≡ other
