-- The command that a command line's words ask for.
use Rattle.std.specs.Prelude.{ℕ, nat_le, ◌&&◌, Option, Some, None, List, [], ◌∷◌, codes, length, if◌then◌else◌}
use Rattle.std.specs.Option.{option_map}
use Rattle.std.specs.Str.{bytes_eq}
use Rattle.clap.specs.Words.{Kinds, Row, Text, all_of, fault_of, first_of, subcommand_of}
use Rattle.capture_format.specs.declared.format.CaptureFormat.{CaptureFormat}
use Rattle.capture_format.specs.declared.format.CaptureFormat.TheVariants.{Pcap, Pcapng}
use Rattle.command_words.specs.declared.command.Description.{Description}
use Rattle.command_words.specs.declared.command.Description.TheVariants.{Check, Explain, Keys}
use Rattle.command_words.specs.declared.command.ModeChoice.{ModeChoice}
use Rattle.command_words.specs.declared.command.ModeChoice.TheVariants.{Auto, Shard, Lock}
use Rattle.command_words.specs.Grammar.{app}
use Rattle.command_words.specs.declared.endpoint.Ends.{Ends}
use Rattle.command_words.specs.Texts.{and_then, number_up_to, workers_in, flows_in, table_in, key_size_in, endpoint_in, ends_between, key_in}
use Rattle.nf_base.specs.Cards.{usual_card}
use Rattle.nf_base.specs.declared.card.Card.{Card}

-- a run: the names of the function's file and of each port's capture, the front of the names of what
-- it leaves, how many workers handle the packets, in which mode, the sizes of the network card that
-- spreads them, the most packets that are handled, and the format of the outputs
pub record Run : Type 0 where
  pub function : Text
  pub out : Text
  pub captures : List Text
  pub workers : ℕ
  pub mode : ModeChoice
  pub card : Card
  pub most : ℕ
  pub format : CaptureFormat

-- a replay: the names of the function's file, of the journal and of each port's capture, the front of the
-- names of the outputs, the most packets that are gone through, and the format of the outputs
pub record Replay : Type 0 where
  pub function : Text
  pub journal : Text
  pub out : Text
  pub captures : List Text
  pub most : ℕ
  pub format : CaptureFormat

-- a run over made-up traffic: the name of the function's file, the front of the names of what the run
-- leaves, what the traffic is drawn by, how many packets there are and of how many flows, how many
-- workers handle them in which mode, the sizes of the network card that spreads them, and the format of
-- the outputs
pub record Gen : Type 0 where
  pub function : Text
  pub out : Text
  pub seed : ℕ
  pub count : ℕ
  pub flows : ℕ
  pub workers : ℕ
  pub mode : ModeChoice
  pub card : Card
  pub format : CaptureFormat

-- a hash: the packet's two ends, the key where one is given, the number of workers, and the sizes of
-- the table and of the default key
pub record Hash : Type 0 where
  pub ends : Ends
  pub key : Option (List ℕ)
  pub workers : ℕ
  pub card : Card

-- a text on a function: which one, the name of the function's file, and the sizes of the network card
-- that keys are for
pub record Describe : Type 0 where
  pub what : Description
  pub function : Text
  pub card : Card

-- keys with a certificate: the names of the function's file and of the certificate, and the sizes of the
-- network card that keys are for
pub record Prove : Type 0 where
  pub function : Text
  pub proof : Text
  pub card : Card

-- the judging of a certificate: the names of the function's file and of the certificate
pub record Certify : Type 0 where
  pub function : Text
  pub proof : Text

pub data Command : Type 0 where
  RunCommand : Run → Command
  ReplayCommand : Replay → Command
  GenCommand : Gen → Command
  HashCommand : Hash → Command
  DescribeCommand : Describe → Command
  CertifyCommand : Certify → Command
  ProveCommand : Prove → Command

-- an option's value: its default where the option is left out, and else what its text says
abbrev pub or_default : {A : Type 0} → A → (Text → Option A) → Option Text → Option A
or_default default read None = Some default
or_default default read (Some text) = read text

-- the mode that a word asks for
abbrev pub mode_named : Text → Option ModeChoice
mode_named name =
    if bytes_eq name (codes "auto") then Some Auto else
    if bytes_eq name (codes "shard") then Some Shard else
    if bytes_eq name (codes "lock") then Some Lock else
    None

-- `auto` where none is given
abbrev pub mode_in : Option Text → Option ModeChoice
mode_in text = or_default Auto mode_named text

-- one to four captures
abbrev pub captures_in : Option (List Text) → Option (List Text)
captures_in names = and_then names (λ names. if nat_le 1 (length names) && nat_le (length names) 4 then Some names else None)

-- 10,000,000 packets where no number is given
abbrev pub most_in : Option Text → Option ℕ
most_in text = or_default 10000000 (number_up_to 4294967295) text

-- a network card by the texts of its sizes: a table of 128 entries and keys of 40 bytes where none are given
abbrev pub card_in : Option Text → Option Text → Option Card
card_in table key =
    and_then (or_default usual_card.table table_in table) (λ t.
    option_map (λ k. record { table = t; key = k }) (or_default usual_card.key key_size_in key))

-- the network card that is asked for
abbrev pub card_asked : List Row → Option Card
card_asked rows = card_in (first_of (codes "table") rows) (first_of (codes "key-bytes") rows)

-- what clap gives for an option without a value: `true` where it stands among the words
abbrev pub format_in : Option Text → CaptureFormat
format_in None = Pcap
format_in (Some text) = if bytes_eq text (codes "true") then Pcapng else Pcap

-- pcapng where that is asked for, and else pcap
abbrev pub format_asked : List Row → CaptureFormat
format_asked rows = format_in (first_of (codes "pcapng") rows)

abbrev pub run_in : List Row → Option Run
run_in rows =
    and_then (first_of (codes "function") rows) (λ f.
    and_then (first_of (codes "out") rows) (λ o.
    and_then (captures_in (all_of (codes "capture") rows)) (λ cs.
    and_then (or_default 1 workers_in (first_of (codes "workers") rows)) (λ w.
    and_then (mode_in (first_of (codes "mode") rows)) (λ m.
    and_then (card_asked rows) (λ card.
    option_map (λ n. record { function = f; out = o; captures = cs; workers = w; mode = m; card = card; most = n; format = format_asked rows })
    (most_in (first_of (codes "max-packets") rows))))))))

abbrev pub replay_in : List Row → Option Replay
replay_in rows =
    and_then (first_of (codes "function") rows) (λ f.
    and_then (first_of (codes "journal") rows) (λ j.
    and_then (first_of (codes "out") rows) (λ o.
    and_then (captures_in (all_of (codes "capture") rows)) (λ cs.
    option_map (λ n. record { function = f; journal = j; out = o; captures = cs; most = n; format = format_asked rows })
    (most_in (first_of (codes "max-packets") rows))))))

-- a number of 32 bits
abbrev pub seed_in : Option Text → Option ℕ
seed_in text = and_then text (number_up_to 4294967295)

-- up to 10,000,000 packets
abbrev pub count_in : Option Text → Option ℕ
count_in text = and_then text (number_up_to 10000000)

abbrev pub gen_in : List Row → Option Gen
gen_in rows =
    and_then (first_of (codes "function") rows) (λ f.
    and_then (first_of (codes "out") rows) (λ o.
    and_then (seed_in (first_of (codes "seed") rows)) (λ s.
    and_then (count_in (first_of (codes "count") rows)) (λ n.
    and_then (and_then (first_of (codes "flows") rows) flows_in) (λ k.
    and_then (or_default 1 workers_in (first_of (codes "workers") rows)) (λ w.
    and_then (mode_in (first_of (codes "mode") rows)) (λ m.
    option_map (λ card. record { function = f; out = o; seed = s; count = n; flows = k; workers = w; mode = m; card = card; format = format_asked rows })
    (card_asked rows))))))))

-- a key where one is given
abbrev pub given_key : Option Text → Option (Option (List ℕ))
given_key None = Some None
given_key (Some text) = option_map (λ key. Some key) (key_in text)

-- two ends whose addresses are of one version of IP
abbrev pub ends_in : Option Text → Option Text → Option Ends
ends_in source destination =
    and_then (and_then source endpoint_in) (λ s.
    and_then (and_then destination endpoint_in) (λ d. ends_between s d))

abbrev pub hash_in : List Row → Option Hash
hash_in rows =
    and_then (ends_in (first_of (codes "source") rows) (first_of (codes "destination") rows)) (λ ends.
    and_then (given_key (first_of (codes "key") rows)) (λ key.
    and_then (or_default 1 workers_in (first_of (codes "workers") rows)) (λ w.
    option_map (λ card. record { ends = ends; key = key; workers = w; card = card }) (card_asked rows))))

-- which text on a function a name asks for, but for `keys`
abbrev pub description_named : Text → Option Description
description_named name =
    if bytes_eq name (codes "check") then Some Check else
    if bytes_eq name (codes "explain") then Some Explain else
    None

-- the network card that a text on a function is for; `check` says nothing of keys, and takes no options
abbrev pub described_card : Description → List Row → Option Card
described_card Check rows = Some usual_card
described_card Explain rows = card_asked rows
described_card Keys rows = card_asked rows

abbrev pub describe_in : Description → List Row → Option Describe
describe_in what rows =
    and_then (first_of (codes "function") rows) (λ f.
    option_map (λ card. record { what = what; function = f; card = card }) (described_card what rows))

abbrev pub prove_in : Text → List Row → Option Prove
prove_in proof rows =
    and_then (first_of (codes "function") rows) (λ f.
    option_map (λ card. record { function = f; proof = proof; card = card }) (card_asked rows))

-- keys alone, or with a certificate where a name is given for one
abbrev pub keys_by : Option Text → List Row → Option Command
keys_by None rows = option_map DescribeCommand (describe_in Keys rows)
keys_by (Some proof) rows = option_map ProveCommand (prove_in proof rows)

abbrev pub keys_in : List Row → Option Command
keys_in rows = keys_by (first_of (codes "proof") rows) rows

abbrev pub certify_in : List Row → Option Certify
certify_in rows =
    and_then (first_of (codes "function") rows) (λ f.
    option_map (λ p. record { function = f; proof = p }) (first_of (codes "proof") rows))

-- the command of a name, with what stands beside it
abbrev pub named : Text → List Row → Option Command
named name rows =
    if bytes_eq name (codes "run") then option_map RunCommand (run_in rows) else
    if bytes_eq name (codes "replay") then option_map ReplayCommand (replay_in rows) else
    if bytes_eq name (codes "gen") then option_map GenCommand (gen_in rows) else
    if bytes_eq name (codes "hash") then option_map HashCommand (hash_in rows) else
    if bytes_eq name (codes "certify") then option_map CertifyCommand (certify_in rows) else
    if bytes_eq name (codes "keys") then keys_in rows else
    and_then (description_named name) (λ what. option_map DescribeCommand (describe_in what rows))

abbrev pub in_match : Option (Text × List Row) → Option Command
in_match found = and_then found (λ found. named found.0 found.1)

-- what clap takes nothing amiss in
abbrev pub if_faultless : Kinds → Option Command → Option Command
if_faultless [] command = command
if_faultless (k ∷ ks) command = None

-- The command that these words ask for, the first of which is the program's name; None where they ask for none.
abbrev pub command_of : List Text → Option Command
command_of words = if_faultless (fault_of app words) (in_match (subcommand_of app words))
