use Rattle.std.proofs.Common.{◌≡◌, ℕ, ◌%◌, ◌<◌, length, get_or}
use Rattle.rss_table.proofs.table.Table.even.Given as goal

abbrev pub invariant-loop-i : goal.invariant-loop-i
invariant-loop-i l = record {
  entries : length l.queues ≡ 512;
  go_round : (k : ℕ) → k < l.i → get_or l.queues k 0 ≡ k % l.count;
}
