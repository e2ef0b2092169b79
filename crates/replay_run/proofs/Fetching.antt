-- The packet that a line has to be of.
use Rattle.std.proofs.Common.{◌≡◌, ℕ, ◌<◌, ◌≤◌, Bool, cond, List, [], ◌∷◌, length, filter, Option, Some, None, Result, Ok, Err, refl, sym, ap, ◌∙◌, subst, arith}
use Rattle.std.specs.List.{AllByRecursion}
use Rattle.std.proofs.lemmas.Bool.{ne_eqb}
use Rattle.std.proofs.lemmas.List.{length-map}
use Rattle.std.proofs.lemmas.Option.{same_Some}
use Rattle.nf_base.specs.declared.packet.Packet.{Packet}
use Rattle.nf_files.specs.Told.{Told}
use Rattle.packet_feed.specs.Arrivals.{Arrival}
use Rattle.packet_feed.specs.Streams.{Stream}
use Rattle.packet_feed.specs.Sources.{files_in, sixes_in}
use Rattle.packet_feed.specs.Feeding.{Feeding}
use Rattle.packet_feed.specs.Ports.{is_of, AreAllOf, StandsByPort, FeedsAt, CountsAt}
use Rattle.packet_feed.proofs.Gathering.{AllIn}
use Rattle.packet_feed.proofs.Standing.{all_ports}
use Rattle.run_history.specs.declared.line.Mode.TheVariants.{One, Shard, Lock}
use Rattle.run_history.specs.declared.line.JournalLine.{JournalLine}
use Rattle.journal_check.specs.Judging.{port_in}
use Rattle.stream_run.specs.declared.fault.RunFault.{RunFault}
use Rattle.replay_run.specs.Turns.{packets_at, Fetches, CountsOne}

-- feeds over the same captures have the same packets
pub same_packets : (feed begun : Feeding) (start : Told) → files_in feed.sources ≡ files_in begun.sources → sixes_in feed.sources ≡ sixes_in begun.sources → packets_at feed start ≡ packets_at begun start
same_packets feed begun start files sixes = rw (files, sixes) refl

pub no_port : (line : JournalLine) (port : ℕ) → port_in line ≡ None → port_in line ≡ Some port → ⊥
no_port line port none some = never port (sym none ∙ some)
  where
    never : (n : ℕ) → None ≡ Some n → ⊥
    never n e = cc

-- no packet came in at a port past the last one
none_past : (port n : ℕ) (xs : List Arrival) → n ≤ port → AllByRecursion (λ (a : Arrival). a.packet.id.port < n) xs → filter (is_of port) xs ≡ []
none_past port n [] past h = refl
none_past port n (x ∷ xs) past h =
    ap (λ (b : Bool). cond b (x ∷ filter (is_of port) xs) (filter (is_of port) xs)) (ne_eqb x.packet.id.port port (λ same. absurd (omega (arith, same, h.0, past))))
    ∙ none_past port n xs past h.1

all_past : (port n : ℕ) (all : Option (List Arrival)) (given : List Arrival) → n ≤ port → AllIn (λ (a : Arrival). a.packet.id.port < n) all → AllByRecursion (λ (a : Arrival). a.packet.id.port < n) given → AreAllOf port all given
all_past port n None given past h k = tt
all_past port n (Some all) given past h k = none_past port n all past h ∙ sym (none_past port n given past k)

pub past_ports : (feed : Feeding) (start : Told) (given : List Arrival) (now : Told) (told port : ℕ) (line : JournalLine) → port_in line ≡ Some told → port_in line ≡ Some port → length (files_in feed.sources) ≤ told
    → StandsByPort start given feed now → AreAllOf port (packets_at feed start) given
past_ports feed start given now told port line is e past h =
    let same : told ≡ port = same_Some _ _ (sym is ∙ e) in
    let long : length (files_in feed.sources) ≡ length feed.sources = length-map feed.sources (λ (s : Stream). s.reading.file) in
    all_past port (length (files_in feed.sources)) (packets_at feed start) given (omega (arith, same, past)) (all_ports (sixes_in feed.sources) (files_in feed.sources) start)
    (subst (λ (n : ℕ). AllByRecursion (λ (a : Arrival). a.packet.id.port < n) given) (sym long) h.sources.among)

pub fetched : (port : ℕ) (line : JournalLine) (feed next : Feeding) (old now : Told) (r : Option Packet) → port_in line ≡ Some port → files_in next.sources ≡ files_in feed.sources → sixes_in next.sources ≡ sixes_in feed.sources → CountsAt port feed next (Ok r)
    → ((start : Told) (given : List Arrival) → StandsByPort start given feed old → FeedsAt port start given next now (Ok r)) → Fetches {E = RunFault} Lock line feed next old now (Ok r)
fetched port line feed next old now (Some packet) is files sixes counts feeds = (is ∙ ap (λ (n : ℕ). Some n) (sym counts.1), λ start given h. feeds start given h)
fetched port line feed next old now None is files sixes counts feeds = λ start given h other e.
    let same : port ≡ other = same_Some _ _ (sym is ∙ e) in
    subst (λ (n : ℕ). AreAllOf n (packets_at feed start) given) same
    (subst (λ (all : Option (List Arrival)). AreAllOf port all given) (same_packets next feed start files sixes) (feeds start given h).1)

pub counted : (port : ℕ) (feed next : Feeding) (r : Option Packet) → CountsAt port feed next (Ok r) → CountsOne {E = RunFault} feed next (Ok r)
counted port feed next (Some packet) counts = (counts.0, counts.2)
counted port feed next None counts = tt

-- in mode `shard` the packets are those of mode `one`
pub as_shard : (line : JournalLine) (feed next : Feeding) (old now : Told) (r : Result (Option Packet) RunFault) → Fetches One line feed next old now r → Fetches Shard line feed next old now r
as_shard line feed next old now (Ok (Some packet)) h = h
as_shard line feed next old now (Ok None) h = h
as_shard line feed next old now (Err stop) h = tt
