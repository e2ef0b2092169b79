use Rattle.std.proofs.Common.{◌≡◌, [], refl}
use Rattle.std.proofs.lemmas.List.{length-map}
use Rattle.nf_base.specs.Handlers.{blocks_of}
use Rattle.nf_base.specs.Functions.{function_of}
use Rattle.nf_base.specs.Step.{input}
use Rattle.nf_base.specs.View.{block_of}
use Rattle.nf_meaning.specs.declared.context.Input.{Input}
use Rattle.nf_meaning.specs.View.{input_of}
use Rattle.nf_meaning.proofs.Handled.{comes_to_end, comes_to_fault, tells_full}
use Rattle.nf_meaning.proofs.handling.run.Goals as goal

pub returns-in-Ok : goal.returns-in-Ok
returns-in-Ok c = λ all may.
    let f = c.args.func.now in
    let p : Input = record { decls = c.as_slice.result; ports = c.len.result; time = c.args.time; fields = c.args.fields; choices = c.args.choices } in
    let same : input_of p ≡ input (function_of f) c.args.time c.args.fields = rw (c.as_slice.ensures.value, c.len.ensures.value, length-map f.handlers blocks_of) refl in
    let goes = comes_to_end (function_of f) c.args.state.now c.args.time c.args.fields (block_of c.args.handler.now.block) (input_of p) c.in_ok-context.context c.exec.new.context c.in-Ok.flow all same c.in_ok-context.ensures (c.in-Ok.ensures.goes.goes all may) in
    let tells = tells_full (function_of f) c.args.state.now c.args.time c.args.fields (block_of c.args.handler.now.block) (input_of p) c.in_ok-context.context c.exec.new.context c.in-Ok.flow all same c.in_ok-context.ensures (c.in-Ok.ensures.goes.tells all (λ d. []) may) in
    (rw c.action_of.ensures goes, tells)

pub returns-in-Err : goal.returns-in-Err
returns-in-Err c =
    let f = c.args.func.now in
    let p : Input = record { decls = c.as_slice.result; ports = c.len.result; time = c.args.time; fields = c.args.fields; choices = c.args.choices } in
    let same : input_of p ≡ input (function_of f) c.args.time c.args.fields = rw (c.as_slice.ensures.value, c.len.ensures.value, length-map f.handlers blocks_of) refl in
    comes_to_fault (function_of f) c.args.state.now c.args.time c.args.fields (block_of c.args.handler.now.block) p c.in_ok-context.context c.exec.new.context c.in-Err.fault same c.in_ok-context.ensures c.in-Err.ensures.goes
