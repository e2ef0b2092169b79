-- Keys by which packets that meet have equal hashes.
use Rattle.std.specs.Prelude.{◌≡◌, List}
use Rattle.nf_base.specs.declared.keys.Keys.{Keys}
use Rattle.nf_base.specs.Text.{Function}
use Rattle.nf_base.specs.Runs.{Handling, Report, Meet}
use Rattle.nf_base.specs.Hashed.{HasInput}
use Rattle.toeplitz_hash.specs.Packets.{hash_of}

-- two packets that meet in a run of a function have equal hashes
abbrev pub HashAlikeWhereTheyMeet : Function → Keys → Type 0
HashAlikeWhereTheyMeet f keys =
    (hs : List Handling) (a b : Report) → HasInput a.packet → HasInput b.packet → Meet f hs a b →
    hash_of keys a.packet ≡ hash_of keys b.packet
