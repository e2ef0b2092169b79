-- How a run's packets were handled, by how many workers, and what the network card has.
use Rattle.std.specs.Prelude.{ℕ, ◌≤◌}
use Rattle.nf_base.specs.declared.card.TableSize.{TableSize}
use Rattle.nf_base.specs.declared.card.TableSize.TheVariants.{Entries128, Entries512}
use Rattle.nf_base.specs.declared.card.KeySize.{KeySize}
use Rattle.nf_base.specs.declared.card.KeySize.TheVariants.{Bytes40, Bytes52}
use Rattle.nf_base.specs.declared.card.Card.{Card}
use Rattle.run_history.specs.declared.version.Version.{Version}
use Rattle.run_history.specs.declared.version.Version.TheVariants.{First, Second}
use Rattle.run_history.specs.declared.line.Mode.{Mode}
use Rattle.run_history.specs.declared.line.Mode.TheVariants.{One, Shard, Lock}

-- what the first line of a journal tells
pub record Heading : Type 0 where
  pub mode : Mode
  pub workers : ℕ
  pub card : Card

-- In modes `shard` and `lock` packets are parted among workers: there are two or more.
abbrev pub least_workers : Mode → ℕ
least_workers One = 1
least_workers Shard = 2
least_workers Lock = 2

-- a mode with a number of workers that it may have
pub record IsHeading (h : Heading) : Type 0 where
  pub least : least_workers h.mode ≤ h.workers
  pub most : h.workers ≤ 16

-- the version that tells a card: the first one is of the usual card alone, a table of 128 and keys of 40 bytes
abbrev pub version_of : Card → Version
version_of card = of_sizes card.table card.key
  where
    of_sizes : TableSize → KeySize → Version
    of_sizes Entries128 Bytes40 = First
    of_sizes Entries128 Bytes52 = Second
    of_sizes Entries512 key = Second
