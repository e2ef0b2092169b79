use Rattle.std.proofs.Common.{◌≡◌, ◌+◌, ◌∙◌, ◌++◌, [], ◌∷◌, ℕ, zero, suc, List, length, map, Some, string_bytes, ap, sym, subst, arith}
use Rattle.std.specs.List.{slice_get}
use Rattle.std.proofs.lemmas.List.{length-map}
use Rattle.nf_files.specs.Causes.{asking}
use Rattle.stream_run.specs.declared.fault.RunFault.{RunFault}
use Rattle.stream_run.specs.declared.fault.RunFault.TheVariants as numbered
use Rattle.packet_feed.specs.Feeding.{Feeding}
use Rattle.call_base.specs.Names.{reading}
use Rattle.call_base.specs.Opened.{AreOpened, AsksSome, StopsFrom}
use Rattle.call_base.specs.Outside.{Outside, seen}
use Rattle.call_base.proofs.Reading.{fed_next}
use Rattle.replay_call.specs.declared.job.Job.{Job}
use Rattle.replay_call.specs.Progress.{IsSized, HasFed, ports_of}
use Rattle.replay_call.proofs.Beginning.{halted, are_unopened}
use Rattle.replay_call.proofs.Judging.{has_ready}
use Rattle.nf_files.specs.declared.kind.Kind.TheVariants.{Input}
use Rattle.replay_call.proofs.replaying.replay_named.Goals as goal

-- the places of files that were opened one behind another tell their numbers
placed : (xs ys : List ℕ) (from : ℕ) → ((i f : ℕ) → slice_get xs i ≡ Some f → f ≡ from + i) → ((i f : ℕ) → slice_get ys i ≡ Some f → f ≡ from + length xs + i) → (i f : ℕ) → slice_get (xs ++ ys) i ≡ Some f → f ≡ from + i
placed [] ys from hx hy i f e = omega (arith, hy i f e)
placed (x ∷ xs) ys from hx hy zero f e = hx zero f e
placed (x ∷ xs) ys from hx hy (suc i) f e =
    let r = placed xs ys (suc from) (λ j g q. omega (arith, hx (suc j) g q)) (λ j g q. omega (arith, hy j g q)) i f e in omega (arith, r)

ports_are : (job : Job) → IsSized job → job.layout.ports ≡ ports_of job
ports_are job sized = sym (length-map job.command.now.captures.items string_bytes ∙ sized.captures)

from_behind : (before a : Outside) (job : Job) (captures : List ℕ) (v : Feeding) (last count : ℕ) (stop : RunFault) → HasFed before a job captures v → a.told.next ≡ last + 1 → count ≡ ports_of job + 1 → StopsFrom (last + 1) count stop → StopsFrom (before.told.next + 1 + ports_of job) (ports_of job + 1) stop
from_behind before a job captures v last count numbered.Memory h next long from = tt
from_behind before a job captures v last count (numbered.File file) h next long from = (omega (arith, from.0, next, fed_next h, h.opened.all), omega (arith, from.1, next, fed_next h, h.opened.all, long))

pub replay_ready-requires-clause-files : goal.replay_ready-requires-clause-files
replay_ready-requires-clause-files g c =
    let same = sym c.as_slice.ensures.value ∙ c.in-Some.ensures.cases.0 in
    let captures = c.args.captures.now in
    let outputs = c.in-Some.outputs.now in
    let others = c.in-Some.journal.now ∷ outputs in
    let there = λ (k f : ℕ) (q : slice_get others k ≡ Some f). c.in-Ok.ensures.opened.numbers k f (ap (λ (xs : List ℕ). slice_get xs k) same ∙ q) in
    let at = placed captures others (c.args.job.now.layout.first + 1) (λ k f q. (c.requires.from k f q).0) (λ k f q. omega (arith, there k f q, c.requires.next, c.requires.all)) in
    let all = ap (λ (xs : List ℕ). length xs) same in
    record {
      opened_journal = c.in-Ok.ensures.readable 0 c.in-Some.journal.now (ap (λ (xs : List ℕ). slice_get xs 0) same);
      opened_outputs = λ port file e. c.in-Ok.ensures.readable (suc port) file (ap (λ (xs : List ℕ). slice_get xs (suc port)) same ∙ e);
      apart = λ i j f f' e e' apart is. apart (omega (arith, at i f e, at j f' e', is));
      as_many = omega (arith, c.in-Ok.ensures.all, c.requires.some, c.requires.all, all);
      few = omega (arith, c.in-Ok.ensures.all, c.requires.some, c.requires.sized.few, all);
    }

pub returns-in-Some : goal.returns-in-Some
returns-in-Some g c =
    let a = seen (g.F.Files.told c.args.files.now) (g.F.Files.counted c.args.files.now) in
    let b = seen (g.F.Files.told c.open_captures.new.files) (g.F.Files.counted c.open_captures.new.files) in
    let job = c.args.job.now in
    let same = sym c.as_slice.ensures.value ∙ c.in-Some.ensures.cases.0 in
    record {
      replays = λ before is fed named. c.replay_ready.ensures.replays before is
          (has_ready before a b job c.args.captures.now c.args.feed.now c.in-Ok.opened.items c.in-Some.journal.now c.in-Some.outputs.now fed
          (subst (λ (ns : List (List ℕ)). AreOpened a.told b.told ns c.in-Ok.opened.items) named c.in-Ok.ensures.opened)
          same
          (omega (arith, c.in-Ok.ensures.all, c.requires.some, ports_are job c.requires.sized))
          c.open_captures.ensures.untouched c.open_captures.ensures.rests
          (subst (λ (ns : List (List ℕ)). b.counted ≡ asking (map reading ns) a.counted) named c.in-Ok.ensures.cause));
    }

pub returns : goal.returns
returns g c =
    let a = seen (g.F.Files.told c.args.files.now) (g.F.Files.counted c.args.files.now) in
    let b = seen (g.F.Files.told c.open_captures.new.files) (g.F.Files.counted c.open_captures.new.files) in
    let job = c.args.job.now in
    record {
      replays = λ before is fed named. halted before b job c.in-Err.stop c.halt.result is c.requires.sized c.halt.ensures
          (are_unopened before a b job c.args.captures.now c.args.feed.now c.in-Err.stop is c.requires.sized fed c.open_captures.ensures.untouched
          (from_behind before a job c.args.captures.now c.args.feed.now c.args.last (length c.args.names.now) c.in-Err.stop fed c.requires.last (omega (arith, c.requires.some, ports_are job c.requires.sized)) c.in-Err.ensures.from)
          (subst (λ (ns : List (List ℕ)). AsksSome (map reading ns) a.counted b.counted c.in-Err.stop) named c.in-Err.ensures.cause));
    }

pub replay_ready-requires-clause-read : goal.replay_ready-requires-clause-read
replay_ready-requires-clause-read g c = λ port file e. c.open_captures.ensures.kinds file Input (c.requires.read port file e)
