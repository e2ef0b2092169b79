use Rattle.std.proofs.Common.{◌∙◌, length, refl}
use Rattle.packet_feed.specs.declared.fed.Fed.{Fed}
use Rattle.packet_feed.specs.Arrivals.{Arrival}
use Rattle.packet_feed.specs.Feeding.{shown}
use Rattle.packet_feed.specs.Sources.{files_in, sixes_in}
use Rattle.stream_run.specs.Writing.{files_of}
use Rattle.sharded_run.proofs.Gathered.{gathers_more, gathers_still, over_all, over_many}
use Rattle.stream_run.proofs.Went.{went_both, went_read, unread}
use Rattle.sharded_run.proofs.Passed.{passing_read, passing_cut, can_handle, fits_last}
use Rattle.sharded_run.proofs.Flowed.{passed_by}
use Rattle.sharded_run.proofs.passing.pass_one.Goals as goal

pub returns-in-Ok-Packet-clause-passed : goal.returns-in-Ok-Packet-clause-passed
returns-in-Ok-Packet-clause-passed g c = λ x card format begun start all suits ports st h.
    let told = g.F.Files.told in
    let feed = c.args.feed.now in
    let next = c.next.new.self in
    let old = told c.args.files.now in
    let mid = told c.next.new.files in
    let now = told c.hand_out.new.files in
    let n = length c.args.captures.now in
    let ok = c.in-Ok-Packet.ensures in
    let counts = rw c.in-Ok-Packet.field-0-is at ok.counts in
    let packet = c.in-Ok-Packet.packet in
    let one : Arrival = shown packet next in
    let more = gathers_more n begun feed next start old mid all packet one.original one.frame h (rw c.in-Ok-Packet.field-0-is at ok.feeds) (rw c.in-Ok-Packet.field-0-is at ok.times) counts.0 counts.1 counts.2 c.next.ensures.same.most c.next.ensures.same.files c.next.ensures.same.six refl refl c.fits.ensures ports in
    let can = can_handle x.function n (sixes_in next.sources) packet suits.ports_are (c.next.ensures.same.six ∙ suits.six) (fits_last n (sixes_in next.sources) all one more.fit) in
    passed_by x card format n begun feed next start old mid now c.hand_out.new.crew c.hand_out.new.sinks all one c.hand_out.result
    (c.hand_out.ensures.handed x card format all (passing_read x card format all old mid c.args.crew.now c.args.sinks.now c.next.ensures.kept.givens st) can (suits.queue packet)) h more counts.0 c.hand_out.ensures.rests

pub returns-in-Ok-End-clause-passed : goal.returns-in-Ok-End-clause-passed
returns-in-Ok-End-clause-passed g c = λ x card format begun start all suits ports st h.
    let told = g.F.Files.told in
    let feed = c.args.feed.now in
    let next = c.next.new.self in
    let old = told c.args.files.now in
    let mid = told c.next.new.files in
    let n = length c.args.captures.now in
    let ok = c.in-Ok-End.ensures in
    let counts = rw c.in-Ok-End.field-0-is at ok.counts in
    let feeds = rw c.in-Ok-End.field-0-is at ok.feeds in
    let times = rw c.in-Ok-End.field-0-is at ok.times in (
      passing_read x card format all old mid c.args.crew.now c.args.sinks.now c.next.ensures.kept.givens st,
      gathers_still n begun feed next start old mid all h (λ before given b. (feeds before given b).0) times counts c.next.ensures.same.most c.next.ensures.same.files c.next.ensures.same.six,
      over_all n begun feed next start old mid all h feeds,
    )

pub returns-in-Ok-TooMany-clause-passed : goal.returns-in-Ok-TooMany-clause-passed
returns-in-Ok-TooMany-clause-passed g c = λ x card format begun start all suits ports st h.
    let told = g.F.Files.told in
    let feed = c.args.feed.now in
    let next = c.next.new.self in
    let old = told c.args.files.now in
    let mid = told c.next.new.files in
    let n = length c.args.captures.now in
    let ok = c.in-Ok-TooMany.ensures in
    let counts = rw c.in-Ok-TooMany.field-0-is at ok.counts in
    let feeds = rw c.in-Ok-TooMany.field-0-is at ok.feeds in
    let times = rw c.in-Ok-TooMany.field-0-is at ok.times in (
      passing_read x card format all old mid c.args.crew.now c.args.sinks.now c.next.ensures.kept.givens st,
      gathers_still n begun feed next start old mid all h (λ before given b. (feeds before given b).0) times counts.0 c.next.ensures.same.most c.next.ensures.same.files c.next.ensures.same.six,
      over_many n begun feed next start old mid all h feeds counts.0 counts.1 c.next.ensures.same.most,
    )

pub returns-in-Err-clause-passed : goal.returns-in-Err-clause-passed
returns-in-Err-clause-passed g c = λ x card format begun start all suits ports st h.
    let told = g.F.Files.told in
    let feed = c.args.feed.now in
    let old = told c.args.files.now in
    let mid = told c.next.new.files in (
      passing_cut x card format all old mid c.args.crew.now _ c.args.sinks.now c.next.ensures.kept.givens st refl refl,
      record { feed = feed; now = old; gathers = h },
    )

pub returns-in-Ok-Packet-clause-went : goal.returns-in-Ok-Packet-clause-went
returns-in-Ok-Packet-clause-went g c =
    let told = g.F.Files.told in
    let files = files_of c.args.sinks.now in
    let all = files_in c.args.feed.now.sources in
    let read = went_read c.args.captures.now files all (told c.args.files.now) (told c.next.new.files) _ _ (tt {0}) c.next.ensures.kept c.in-Ok-Packet.ensures.cause in
    went_both c.args.captures.now files _ _ _ _ _ _ (tt {0}) c.hand_out.result read (c.hand_out.ensures.went c.args.captures.now)

pub returns-in-Ok-End-clause-went : goal.returns-in-Ok-End-clause-went
returns-in-Ok-End-clause-went g c = went_read c.args.captures.now (files_of c.args.sinks.now) (files_in c.args.feed.now.sources) _ _ _ _ _ c.next.ensures.kept c.in-Ok-End.ensures.cause

pub returns-in-Ok-TooMany-clause-went : goal.returns-in-Ok-TooMany-clause-went
returns-in-Ok-TooMany-clause-went g c = went_read c.args.captures.now (files_of c.args.sinks.now) (files_in c.args.feed.now.sources) _ _ _ _ _ c.next.ensures.kept c.in-Ok-TooMany.ensures.cause

pub returns-in-Err-clause-went : goal.returns-in-Err-clause-went
returns-in-Err-clause-went g c = unread Fed c.args.captures.now (files_of c.args.sinks.now) (files_in c.args.feed.now.sources) _ _ _ _ c.in-Err.fault c.stop_in.result c.requires.captures.files c.stop_in.ensures c.next.ensures.kept c.in-Err.ensures.cause
