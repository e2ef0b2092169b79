-- What the declared commands stand for.
use Rattle.std.specs.Prelude.{◌≤◌, map, length, string_bytes}
use Rattle.command_words.specs.declared.command.RunCommand as declared_run
use Rattle.command_words.specs.declared.command.ReplayCommand as declared_replay
use Rattle.command_words.specs.declared.command.GenCommand as declared_gen
use Rattle.command_words.specs.declared.command.HashCommand as declared_hash
use Rattle.command_words.specs.declared.command.DescribeCommand as declared_describe
use Rattle.command_words.specs.declared.command.CertifyCommand as declared_certify
use Rattle.command_words.specs.declared.command.ProveCommand as declared_prove
use Rattle.command_words.specs.declared.command.Command as declared_command
use Rattle.command_words.specs.declared.command.Command.TheVariants as commands
use Rattle.command_words.specs.Commands.{Run, Replay, Gen, Hash, Describe, Certify, Prove, Command, RunCommand, ReplayCommand, GenCommand, HashCommand, DescribeCommand, CertifyCommand, ProveCommand}

abbrev pub run : declared_run.RunCommand → Run
run c = record {
  function = string_bytes c.function;
  out = string_bytes c.out;
  captures = map string_bytes c.captures.items;
  workers = c.workers;
  mode = c.mode;
  card = c.card;
  most = c.most;
  format = c.format;
}

abbrev pub replay : declared_replay.ReplayCommand → Replay
replay c = record {
  function = string_bytes c.function;
  journal = string_bytes c.journal;
  out = string_bytes c.out;
  captures = map string_bytes c.captures.items;
  most = c.most;
  format = c.format;
}

abbrev pub gen : declared_gen.GenCommand → Gen
gen c = record {
  function = string_bytes c.function;
  out = string_bytes c.out;
  seed = c.seed;
  count = c.count;
  flows = c.flows;
  workers = c.workers;
  mode = c.mode;
  card = c.card;
  format = c.format;
}

abbrev pub hash : declared_hash.HashCommand → Hash
hash c = record { ends = c.ends; key = c.key; workers = c.workers; card = c.card }

abbrev pub describe : declared_describe.DescribeCommand → Describe
describe c = record { what = c.what; function = string_bytes c.function; card = c.card }

abbrev pub certify : declared_certify.CertifyCommand → Certify
certify c = record { function = string_bytes c.function; proof = string_bytes c.proof }

abbrev pub prove : declared_prove.ProveCommand → Prove
prove c = record { function = string_bytes c.function; proof = string_bytes c.proof; card = c.card }

-- what is asked for
abbrev pub asked : declared_command.Command → Command
asked (commands.Run c) = RunCommand (run c)
asked (commands.Replay c) = ReplayCommand (replay c)
asked (commands.Gen c) = GenCommand (gen c)
asked (commands.Hash c) = HashCommand (hash c)
asked (commands.Describe c) = DescribeCommand (describe c)
asked (commands.Certify c) = CertifyCommand (certify c)
asked (commands.Prove c) = ProveCommand (prove c)

-- a run and a replay have one to four captures, and made-up traffic has one to 65,536 flows
abbrev pub HasFew : declared_command.Command → Type 0
HasFew (commands.Run c) = (1 ≤ length c.captures.items) × (length c.captures.items ≤ 4)
HasFew (commands.Replay c) = (1 ≤ length c.captures.items) × (length c.captures.items ≤ 4)
HasFew (commands.Gen c) = (1 ≤ c.flows) × (c.flows ≤ 65536)
HasFew (commands.Hash c) = Unit {0}
HasFew (commands.Describe c) = Unit {0}
HasFew (commands.Certify c) = Unit {0}
HasFew (commands.Prove c) = Unit {0}
