use Rattle.std.proofs.Common.{◌∙◌, ◌+◌, List, String, Global, Err, ℕ, length, map, slice_get, string_bytes, ap, sym, subst, arith}
use Rattle.std.proofs.lemmas.List.{length-map}
use Rattle.nf_base.specs.Functions.{function_of}
use Rattle.call_base.specs.Outside.{seen}
use Rattle.call_base.specs.Reading as ladder
use Rattle.call_base.specs.Reading.{ReadsTo}
use Rattle.lock_mode.specs.Gates.{Rose}
use Rattle.run_call.specs.Progress.{HasFed, asked}
use Rattle.run_call.proofs.Beginning.{unfed}
use Rattle.run_call.proofs.running.run_job.Goals as goal

pub open_inputs-requires-clause-last : goal.open_inputs-requires-clause-last
open_inputs-requires-clause-last g c =
    let requires = c.requires.1.1.1.1.1.1.1.1.1.1.1 in omega (arith, requires.1.0, requires.0.first)

pub open_inputs-requires-clause-all : goal.open_inputs-requires-clause-all
open_inputs-requires-clause-all g c =
    let job = c.args.job.now in
    let is = c.requires.1.1.1.1.1.1.1.1.1.1.1.0 in
    ap (λ (xs : List (String Global)). length xs) c.as_slice-names.ensures.value ∙ sym (length-map job.command.now.captures.items string_bytes) ∙ sym (is.captures ∙ is.ports)

pub returns-in-Err : goal.returns-in-Err
returns-in-Err g c =
    let requires = c.requires.1.1.1.1.1.1.1.1.1.1.1 in
    let job = c.args.job.now in
    let f = function_of job.func.now in
    let count = g.L.Gate.refused c.args.gate.now in
    let b = seen (g.F.Files.told c.open_inputs.new.files) (g.F.Files.counted c.open_inputs.new.files) in
    record {
      runs = unfed (Rose count count) g.before b job c.in-Err.halt requires.0
          (subst (λ (ns : List (String Global)). ReadsTo (record { text = (asked job).function; captures = map string_bytes ns; most = (asked job).most }) f g.before b (Err c.in-Err.halt)) c.as_slice-names.ensures.value
          (c.in-Err.ensures.reads (asked job).function g.before (sym requires.0.first) requires.1.1));
    }

pub run_fed-requires : goal.run_fed-requires
run_fed-requires g c κs within =
    let requires = c.requires.1.1.1.1.1.1.1.1.1.1.1 in
    let job = c.args.job.now in
    let f = function_of job.func.now in
    let b = seen (g.F.Files.told c.open_inputs.new.files) (g.F.Files.counted c.open_inputs.new.files) in (
      within.0,
      (
        within.1.0,
        (
          within.1.1.0,
          (
            within.1.1.1,
            (
              c.requires.1.1.1.1.0,
              (
                c.requires.1.1.1.1.1.0,
                (
                  c.requires.1.1.1.1.1.1.0,
                  (
                    c.requires.1.1.1.1.1.1.1.0,
                    (
                      c.requires.1.1.1.1.1.1.1.1.0,
                      (
                        c.requires.1.1.1.1.1.1.1.1.1.0,
                        (
                          c.requires.1.1.1.1.1.1.1.1.1.1.0,
                          (
                            requires.0,
                            (
                              λ p f e. c.in-Ok.ensures.readable p f (ap (λ (fs : List ℕ). slice_get fs p) (sym c.as_slice-captures.ensures.value) ∙ e),
                              subst (λ (fs : List ℕ). HasFed g.before b job fs c.in-Ok.field-0.feed) (sym c.as_slice-captures.ensures.value)
                                  (subst (λ (ns : List (String Global)). ladder.HasFed (record { text = (asked job).function; captures = map string_bytes ns; most = (asked job).most }) f g.before b c.in-Ok.field-0.captures.items c.in-Ok.field-0.feed) c.as_slice-names.ensures.value
                                  (c.in-Ok.ensures.reads (asked job).function g.before (sym requires.0.first) requires.1.1)),
                            ),
                          ),
                        ),
                      ),
                    ),
                  ),
                ),
              ),
            ),
          ),
        ),
      ),
    )
