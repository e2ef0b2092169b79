-- Queues by hashes, and the packet behind others.
use Rattle.std.proofs.Common.{◌≡◌, List, [], ◌∷◌, ◌++◌, length, map, take, Some, slice_get, refl, ap, ◌∙◌}
use Rattle.nf_base.specs.declared.packet.Packet.{Packet}
use Rattle.packet_feed.specs.Arrivals.{Arrival, packet_of}
use Rattle.rss_table.specs.Tables.{even_table, queue_at}
use Rattle.rss_table.proofs.Entries.{entries_go_round}
use Rattle.sharded_run.specs.Laws.{QueuesAreOfHashes, NextIsNext}

pub of_hashes : QueuesAreOfHashes
of_hashes keys workers packet = (
  λ hash e. ap (queue_at (even_table keys.table workers)) e ∙ (entries_go_round keys.table workers).of_hash hash,
  λ e. ap (queue_at (even_table keys.table workers)) e ∙ (entries_go_round keys.table workers).of_skipped,
)

taken : (given : List Arrival) (next : Arrival) (later : List Arrival) → take (length given) (given ++ next ∷ later) ≡ given
taken [] next later = refl
taken (a ∷ given) next later = ap (λ (t : List Arrival). a ∷ t) (taken given next later)

behind : (given : List Arrival) (next : Arrival) (later : List Arrival) → slice_get (map packet_of (given ++ next ∷ later)) (length given) ≡ Some next.packet
behind [] next later = refl
behind (a ∷ given) next later = behind given next later

pub next_next : NextIsNext
next_next all given packet h = (
  ap (take (length given)) h.3 ∙ taken given h.0 h.1,
  ap (λ (t : List Arrival). slice_get (map packet_of t) (length given)) h.3 ∙ behind given h.0 h.1 ∙ ap (λ (p : Packet). Some p) h.2,
)
