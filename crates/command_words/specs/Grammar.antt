-- The words that a command line may have, as clap reads them.
use Rattle.std.specs.Prelude.{true, Some, codes}
use Rattle.clap.specs.Words.{App, Rule, Text, new_app, new_rule, with_rule, with_subcommand}
use Rattle.clap.specs.declared.builder.ArgAction.TheVariants.{Set, Append, SetTrue}

-- one word that has to be there
unfoldable pub word : Text → Rule
word id = record (new_rule id) { required = true; action = Some Set }

-- one word or more
unfoldable pub words : Text → Rule
words id = record (new_rule id) { required = true; action = Some Append }

-- an option with a value, which may be left out
unfoldable pub option : Text → Rule
option id = record (new_rule id) { long = Some id; action = Some Set }

-- an option without a value, which may be left out
unfoldable pub flag : Text → Rule
flag id = record (new_rule id) { long = Some id; action = Some SetTrue }

-- run NF OUT CAPTURE..
unfoldable pub run_names : App
run_names = with_rule (with_rule (with_rule (new_app (codes "run")) (word (codes "function"))) (word (codes "out"))) (words (codes "capture"))

-- the sizes of a network card, behind other words: [--table 128|512] [--key-bytes 40|52]
unfoldable pub with_card : App → App
with_card words = with_rule (with_rule words (option (codes "table"))) (option (codes "key-bytes"))

-- run NF OUT CAPTURE.. [--workers W] [--mode M] [--max-packets N]
unfoldable pub run_amounts : App
run_amounts =
    with_rule (with_rule (with_rule run_names
    (option (codes "workers"))) (option (codes "mode"))) (option (codes "max-packets"))

-- run NF OUT CAPTURE.. [--workers W] [--mode M] [--max-packets N] [--table 128|512] [--key-bytes 40|52]
-- [--pcapng]
unfoldable pub run_app : App
run_app = with_rule (with_card run_amounts) (flag (codes "pcapng"))

-- replay NF JOURNAL OUT
unfoldable pub replay_names : App
replay_names =
    with_rule (with_rule (with_rule (new_app (codes "replay"))
    (word (codes "function"))) (word (codes "journal"))) (word (codes "out"))

-- replay NF JOURNAL OUT CAPTURE.. [--max-packets N] [--pcapng]
unfoldable pub replay_app : App
replay_app =
    with_rule (with_rule (with_rule replay_names
    (words (codes "capture"))) (option (codes "max-packets"))) (flag (codes "pcapng"))

-- gen NF OUT SEED
unfoldable pub gen_names : App
gen_names =
    with_rule (with_rule (with_rule (new_app (codes "gen"))
    (word (codes "function"))) (word (codes "out"))) (word (codes "seed"))

-- gen NF OUT SEED COUNT FLOWS
unfoldable pub gen_amounts : App
gen_amounts = with_rule (with_rule gen_names (word (codes "count"))) (word (codes "flows"))

-- gen NF OUT SEED COUNT FLOWS [--workers W] [--mode M] [--table 128|512] [--key-bytes 40|52] [--pcapng]
unfoldable pub gen_app : App
gen_app =
    with_rule (with_card (with_rule (with_rule gen_amounts (option (codes "workers"))) (option (codes "mode"))))
    (flag (codes "pcapng"))

-- hash SRC:PORT DST:PORT [--key HEX] [--workers W] [--table 128|512] [--key-bytes 40|52]
unfoldable pub hash_app : App
hash_app =
    with_card (with_rule (with_rule (with_rule (with_rule (new_app (codes "hash"))
    (word (codes "source"))) (word (codes "destination")))
    (option (codes "key"))) (option (codes "workers")))

-- check NF, or another word in its place that asks for a text on a function
unfoldable pub description_names : Text → App
description_names name = with_rule (new_app name) (word (codes "function"))

-- keys NF [--table 128|512] [--key-bytes 40|52], or another word in the place of `keys`
unfoldable pub description_app : Text → App
description_app name = with_card (description_names name)

-- keys NF [--table 128|512] [--key-bytes 40|52] [--proof FILE]
unfoldable pub keys_app : App
keys_app = with_rule (description_app (codes "keys")) (option (codes "proof"))

-- certify NF FILE
unfoldable pub certify_app : App
certify_app =
    with_rule (with_rule (new_app (codes "certify")) (word (codes "function"))) (word (codes "proof"))

-- check NF, explain NF and keys NF, behind other commands: `check` alone asks for no card
unfoldable pub with_descriptions : App → App
with_descriptions others =
    with_subcommand (with_subcommand (with_subcommand others
    (description_names (codes "check")).top) (description_app (codes "explain")).top)
    keys_app.top

-- the commands that handle packets, behind other commands
unfoldable pub with_runs : App → App
with_runs others = with_subcommand (with_subcommand (with_subcommand others run_app.top) replay_app.top) gen_app.top

-- every command
unfoldable pub app : App
app =
    with_descriptions (with_subcommand (with_subcommand (with_runs (new_app (codes "maestro")))
    hash_app.top) certify_app.top)
