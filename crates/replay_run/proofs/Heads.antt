-- The first line of a journal.
use Rattle.std.proofs.Common.{◌≡◌, ℕ, ◌<◌, List, [], ◌++◌, map, Option, Some, None, Result, Ok, Err, inl, inr, sym, ap, ◌∙◌, subst, arith}
use Rattle.capture_format.specs.declared.format.CaptureFormat.{CaptureFormat}
use Rattle.nf_base.specs.declared.keys.Keys.{Keys}
use Rattle.nf_base.specs.declared.state.State.{State}
use Rattle.nf_base.specs.Text.{Function}
use Rattle.packet_feed.specs.Arrivals.{Arrival}
use Rattle.run_history.specs.Headings.{Heading, IsHeading}
use Rattle.journal_read.specs.Journals.{Reading, Stands, AreAllLines, AreMoreLines}
use Rattle.stream_run.specs.declared.fault.RunFault.{RunFault}
use Rattle.stream_run.specs.Runs.{Handled}
use Rattle.stream_run.specs.Streaming.{arrival_of}
use Rattle.nf_files.specs.Told.{IsToldAs}
use Rattle.file_match.specs.Comparing.{IsOtherIfTold}
use Rattle.replay_run.specs.Queues.{keys_or_none, IsKeyedBy}
use Rattle.replay_run.specs.Replaying.{RunKind, Beside, IsRun, AreFirstIn, IsWrong, IsRight, IsJournal, Replays, AreSent, journal_lines, sent}
use Rattle.replay_run.specs.Heads.{IsHeaded, Comes}
use Rattle.replay_run.specs.declared.result.ReplayResult.{ReplayResult}
use Rattle.replay_run.specs.declared.result.ReplayResult.TheVariants.{Same, TooMany, Line, Output}

-- nothing was read yet
pub stands_none : (o : Option (List ℕ)) (v : Reading) → v.held ≡ [] → Stands o [] v o
stands_none None v e = tt
stands_none (Some all) v e = ap (λ (t : List ℕ). t ++ all) (sym e)

-- ---- what a replay comes to

pub headed : (f : Function) (keys : Option Keys) (heading : Heading) (ports : ℕ) (beside : Beside) (r : Result ReplayResult RunFault) → IsHeading heading → IsKeyedBy heading.mode keys → Replays (IsRun f (keys_or_none keys) heading) heading ports beside r → Comes f keys heading ports beside r
headed f keys heading ports beside (Ok (Same state)) is keyed h = record { is_heading = is; keyed = keyed; replays = h }
headed f keys heading ports beside (Ok TooMany) is keyed h = record { is_heading = is; keyed = keyed; replays = h }
headed f keys heading ports beside (Ok (Line line)) is keyed h = inr (record { is_heading = is; keyed = keyed; replays = h })
headed f keys heading ports beside (Ok (Output port)) is keyed h = record { is_heading = is; keyed = keyed; replays = h }
headed f keys heading ports beside (Err e) is keyed h = tt

-- ---- the same, of what is told at another time

right_as : (Run : RunKind) (heading : Heading) (one other : Beside) (hs : List Handled) (state : State) → other.packets ≡ one.packets → other.most ≡ one.most → IsRight Run heading one hs state → IsRight Run heading other hs state
right_as Run heading one other hs state packets most r = record {
  run = r.run;
  within = omega (arith, r.within, most);
  first = subst (λ (o : Option (List Arrival)). AreFirstIn heading.mode o (map arrival_of hs)) (sym packets) r.first;
  lines = r.lines;
}

journal_as : (Run : RunKind) (heading : Heading) (one other : Beside) (hs : List Handled) (state : State) → other.packets ≡ one.packets → other.journal ≡ one.journal → other.most ≡ one.most → IsJournal Run heading one hs state → IsJournal Run heading other hs state
journal_as Run heading one other hs state packets journal most j = record {
  right = right_as Run heading one other hs state packets most j.right;
  whole = subst (λ (o : Option (List ℕ)). AreAllLines o (journal_lines heading hs)) (sym journal) j.whole;
}

sent_as : (bytes : ℕ → List ℕ) (one other : ℕ → Option (List ℕ)) (ports : ℕ) → ((port : ℕ) → port < ports → other port ≡ one port) → AreSent bytes one ports → AreSent bytes other ports
sent_as bytes one other ports same h port lt = subst (IsToldAs (bytes port)) (sym (same port lt)) (h port lt)

pub replays_as : (Run : RunKind) (heading : Heading) (ports : ℕ) (one other : Beside) (r : Result ReplayResult RunFault) → other.format ≡ one.format → other.packets ≡ one.packets → other.journal ≡ one.journal → other.most ≡ one.most → ((port : ℕ) → port < ports → other.outputs port ≡ one.outputs port)
    → Replays Run heading ports one r → Replays Run heading ports other r
replays_as Run heading ports one other (Ok (Same state)) kind packets journal most outputs h = record {
  hs = h.hs;
  journal_is = journal_as Run heading one other h.hs state packets journal most h.journal_is;
  outputs_are = subst (λ (g : CaptureFormat). AreSent (sent g heading ports h.hs) other.outputs ports) (sym kind) (sent_as (sent one.format heading ports h.hs) one.outputs other.outputs ports outputs h.outputs_are);
}
replays_as Run heading ports one other (Ok TooMany) kind packets journal most outputs h = record {
  hs = h.hs;
  state = h.state;
  right = right_as Run heading one other h.hs h.state packets most h.right;
  count = h.count ∙ sym most;
  more = subst (λ (o : Option (List ℕ)). AreMoreLines o (journal_lines heading h.hs)) (sym journal) h.more;
}
replays_as Run heading ports one other (Ok (Line line)) kind packets journal most outputs h = record {
  hs = h.hs;
  state = h.state;
  right = right_as Run heading one other h.hs h.state packets most h.right;
  fewer = omega (arith, h.fewer, most);
  number = h.number;
  wrong =
      subst (λ (o : Option (List Arrival)). IsWrong Run heading o h.hs other.journal) (sym packets)
      (subst (λ (o : Option (List ℕ)). IsWrong Run heading one.packets h.hs o) (sym journal) h.wrong);
}
replays_as Run heading ports one other (Ok (Output port)) kind packets journal most outputs h = record {
  hs = h.hs;
  state = h.state;
  journal_is = journal_as Run heading one other h.hs h.state packets journal most h.journal_is;
  other = record {
    inside = h.other.inside;
    other =
        subst (λ (g : CaptureFormat). IsOtherIfTold (sent g heading ports h.hs port) (other.outputs port)) (sym kind)
        (subst (IsOtherIfTold (sent one.format heading ports h.hs port)) (sym (outputs port h.other.inside)) h.other.other);
    lesser =
        subst (λ (g : CaptureFormat). AreSent (sent g heading ports h.hs) other.outputs port) (sym kind)
        (sent_as (sent one.format heading ports h.hs) one.outputs other.outputs port (λ k lt. outputs k (omega (arith, lt, h.other.inside))) h.other.lesser);
  };
}
replays_as Run heading ports one other (Err e) kind packets journal most outputs h = tt

headed_as : (f : Function) (keys : Option Keys) (heading : Heading) (ports : ℕ) (one other : Beside) (came : ReplayResult) → other.format ≡ one.format → other.packets ≡ one.packets → other.journal ≡ one.journal → other.most ≡ one.most → ((port : ℕ) → port < ports → other.outputs port ≡ one.outputs port)
    → IsHeaded f keys heading ports one came → IsHeaded f keys heading ports other came
headed_as f keys heading ports one other came kind packets journal most outputs h = record {
  is_heading = h.is_heading;
  keyed = h.keyed;
  replays = replays_as (IsRun f (keys_or_none keys) heading) heading ports one other (Ok came) kind packets journal most outputs h.replays;
}

-- what a replay comes to, of the same that is told
pub comes_as : (f : Function) (keys : Option Keys) (heading : Heading) (ports : ℕ) (one other : Beside) (r : Result ReplayResult RunFault) → other.format ≡ one.format → other.packets ≡ one.packets → other.journal ≡ one.journal → other.most ≡ one.most → ((port : ℕ) → port < ports → other.outputs port ≡ one.outputs port)
    → Comes f keys heading ports one r → Comes f keys heading ports other r
comes_as f keys heading ports one other (Ok (Same state)) kind packets journal most outputs h = headed_as f keys heading ports one other (Same state) kind packets journal most outputs h
comes_as f keys heading ports one other (Ok TooMany) kind packets journal most outputs h = headed_as f keys heading ports one other TooMany kind packets journal most outputs h
comes_as f keys heading ports one other (Ok (Line line)) kind packets journal most outputs (inl h) = inl h
comes_as f keys heading ports one other (Ok (Line line)) kind packets journal most outputs (inr h) = inr (headed_as f keys heading ports one other (Line line) kind packets journal most outputs h)
comes_as f keys heading ports one other (Ok (Output port)) kind packets journal most outputs h = headed_as f keys heading ports one other (Output port) kind packets journal most outputs h
comes_as f keys heading ports one other (Err e) kind packets journal most outputs h = tt
