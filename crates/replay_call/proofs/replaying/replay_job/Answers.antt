use Rattle.std.proofs.Common.{List, String, Global, Err, map, string_bytes, ℕ, sym, subst}
use Rattle.nf_base.specs.Functions.{function_of}
use Rattle.call_base.specs.Outside.{seen}
use Rattle.call_base.specs.Reading as ladder
use Rattle.call_base.specs.Reading.{ReadsTo}
use Rattle.replay_call.specs.Progress.{HasFed, asked}
use Rattle.replay_call.proofs.Beginning.{unfed}
use Rattle.replay_call.proofs.replaying.replay_job.Goals as goal

pub returns-in-Ok : goal.returns-in-Ok
returns-in-Ok g c =
    let job = c.args.job.now in
    let f = function_of job.func.now in
    let b = seen (g.F.Files.told c.open_inputs.new.files) (g.F.Files.counted c.open_inputs.new.files) in
    record {
      replays = λ before is only. c.replay_fed.ensures.replays before is
          (subst (λ (fs : List ℕ). HasFed before b job fs c.in-Ok.field-0.feed) (sym c.as_slice.ensures.value)
          (subst (λ (ns : List (String Global)). ladder.HasFed (record { text = (asked job).function; captures = map string_bytes ns; most = (asked job).most }) f before b c.in-Ok.field-0.captures.items c.in-Ok.field-0.feed) c.as_slice-names.ensures.value
          (c.in-Ok.ensures.reads (asked job).function before (sym is.first) only)));
    }

pub returns-in-Err : goal.returns-in-Err
returns-in-Err g c =
    let job = c.args.job.now in
    let f = function_of job.func.now in
    let b = seen (g.F.Files.told c.open_inputs.new.files) (g.F.Files.counted c.open_inputs.new.files) in
    record {
      replays = λ before is only. unfed before b job c.in-Err.halt is c.requires.sized
          (subst (λ (ns : List (String Global)). ReadsTo (record { text = (asked job).function; captures = map string_bytes ns; most = (asked job).most }) f before b (Err c.in-Err.halt)) c.as_slice-names.ensures.value
          (c.in-Err.ensures.reads (asked job).function before (sym is.first) only));
    }
