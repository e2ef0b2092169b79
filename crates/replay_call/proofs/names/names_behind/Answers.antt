use Rattle.std.proofs.Common.{◌≡◌, ◌+◌, ◌∷◌, ◌++◌, ◌∙◌, [], ℕ, List, map, string_bytes, ap, sym, arith}
use Rattle.std.specs.List.{range_with_len}
use Rattle.std.proofs.lemmas.List.{map-append}
use Rattle.std.proofs.lemmas.List.FromFn.{map-range_with_len_more}
use Rattle.capture_format.specs.declared.format.CaptureFormat.{CaptureFormat}
use Rattle.call_base.specs.Names.{output_name}
use Rattle.replay_call.proofs.names.names_behind.Goals as goal

more : (format : CaptureFormat) (out : List ℕ) (n : ℕ) → map (output_name format out) (range_with_len 0 n) ++ output_name format out n ∷ [] ≡ map (output_name format out) (range_with_len 0 (n + 1))
more format out n = sym (map-range_with_len_more (output_name format out) 0 n n (omega arith))

pub loop-port-preserved : goal.loop-port-preserved
loop-port-preserved c =
    let out = string_bytes c.args.out.now in
    let port = c.loop-port.port in
    let first = string_bytes c.args.journal.now in
    record {
      named = ap (λ xs. map string_bytes xs) c.in_ok-push-2.ensures.items
          ∙ map-append string_bytes c.loop-port.names.items (c.in_ok-output_name.field-0 ∷ [])
          ∙ ap (λ (n : List ℕ). map string_bytes c.loop-port.names.items ++ n ∷ []) c.in_ok-output_name.ensures
          ∙ ap (λ (ns : List (List ℕ)). ns ++ output_name c.args.format out port ∷ []) c.loop-port.invariant.named
          ∙ ap (λ (ns : List (List ℕ)). first ∷ ns) (more c.args.format out port);
    }
