use Rattle.std.proofs.Common.{◌≡◌, ◌∙◌, ◌∷◌, ◌++◌, [], ℕ, List, Option, Some, ap, sym, refl, length, subst, arith}
use Rattle.nf_base.specs.declared.func.Func.{Func}
use Rattle.nf_base.specs.Doors.{IsServed}
use Rattle.nf_base.specs.Functions.{function_of}
use Rattle.nf_base.specs.Step.{step, no_edits}
use Rattle.nf_base.specs.Text.{Function}
use Rattle.nf_base.specs.declared.done.Action.{Action}
use Rattle.nf_base.specs.declared.done.Done.{Done}
use Rattle.nf_base.specs.declared.done.Edits.{Edits}
use Rattle.nf_base.specs.declared.packet.Fields.{Fields}
use Rattle.nf_base.specs.declared.packet.Packet.{Packet}
use Rattle.nf_base.specs.declared.packet.PacketId.{PacketId}
use Rattle.nf_base.specs.declared.state.State.{State}
use Rattle.frame_ip.specs.Edit.{IsUnedited}
use Rattle.packet_feed.specs.Feeding.{last_packet, original_of, frame_of}
use Rattle.run_history.specs.declared.line.Mode.TheVariants.{One}
use Rattle.stream_run.specs.Runs.{Handled}
use Rattle.stream_run.specs.Writing.{came_to, AreHeld, AllGoOn}
use Rattle.stream_run.proofs.running.handle_one.Goals as goal

abbrev done_with : Action → Edits → List ℕ → Done
done_with action edits picks = record { action = action; edits = edits; picks = picks }

steps_with : (f : Function) (before after : State) (packet : Packet) (action : Action) (edits same_edits : Edits) (picks same_picks : List ℕ) → same_edits ≡ edits → same_picks ≡ picks
    → step f before packet picks ≡ Some (record { state = after; done = done_with action edits picks })
    → step f before packet same_picks ≡ Some (record { state = after; done = done_with action same_edits same_picks })
steps_with f before after packet action edits same_edits picks same_picks e p h = rw (e, p) h

-- a packet is what is told of it
told_packet : (p : Packet) (id : PacketId) (time : ℕ) (fields : Option Fields) → id ≡ p.id → time ≡ p.time → fields ≡ p.fields → record { id = id; time = time; fields = fields } ≡ p
told_packet p id time fields i t f = rw (i, t, f) refl

same_handled : (p told : Packet) (original same_original : ℕ) (frame same_frame : List ℕ) (done : Done) → told ≡ p → same_original ≡ original → same_frame ≡ frame → came_to 0 told same_original same_frame done ≡ came_to 0 p original frame done
same_handled p told original same_original frame same_frame done t o f = rw (t, o, f) refl

-- no field is given a value where none was
none_edited : IsUnedited no_edits
none_edited = record {
  src_mac = refl;
  dst_mac = refl;
  src_ip = refl;
  dst_ip = refl;
  src_ip6 = refl;
  dst_ip6 = refl;
  ttl = refl;
  src_port = refl;
  dst_port = refl;
}

pub put_parts-requires-clause-edited : goal.put_parts-requires-clause-edited
put_parts-requires-clause-edited g c = λ e. subst IsUnedited (sym (c.edits.ensures ∙ c.is_edited-edited.ensures e)) none_edited

pub handle_kept-action-requires-clause-port : goal.handle_kept-action-requires-clause-port
handle_kept-action-requires-clause-port g c =
    omega (arith, ap (λ (id : PacketId). id.port) c.id-id.ensures, c.requires.port)

pub handle_kept-action-requires-clause-served : goal.handle_kept-action-requires-clause-served
handle_kept-action-requires-clause-served g c =
    let p = last_packet c.args.feed.now in
    subst (IsServed (function_of c.args.func.now)) (sym (told_packet p c.id-id.result c.time-time.result _ c.id-id.ensures c.time-time.ensures.value c.view-seen.ensures.fields)) c.requires.served

pub returns-clause-handles : goal.returns-clause-handles
returns-clause-handles g c =
    let told = g.F.Files.told in
    let f = function_of c.args.func.now in
    let v = c.args.feed.now in
    let p = last_packet v in
    let left = c.handle_kept-action.new.context in
    let done : Done = done_with c.handle_kept-action.result c.edits.result.now c.picks.result.now in
    let seen_is = told_packet p c.id-id.result c.time-time.result _ c.id-id.ensures c.time-time.ensures.value c.view-seen.ensures.fields in
    let told_is = told_packet p c.id-id.result c.time-time.result c.of_frame-fields.result c.id-id.ensures c.time-time.ensures.value (c.of_frame-fields.ensures ∙ c.view-seen.ensures.fields) in
    let h : Handled = came_to 0 p (original_of v) (frame_of v) done in
    let handled_is = same_handled p (record { id = c.id-id.result; time = c.time-time.result; fields = c.of_frame-fields.result }) (original_of v) c.original.result (frame_of v) c.frame.result.now done told_is c.original.ensures c.frame.ensures in
    record {
      done = done;
      steps = steps_with f c.args.tables.now.state c.handle_kept-action.new.tables.state p c.handle_kept-action.result left.edits c.edits.result.now left.picks c.picks.result.now c.edits.ensures c.picks.ensures
          (subst (λ (q : Packet). step f c.args.tables.now.state q left.picks ≡ Some (record { state = c.handle_kept-action.new.tables.state; done = done_with c.handle_kept-action.result left.edits left.picks })) seen_is c.handle_kept-action.ensures.steps);
      goes_on = λ card format hs held.
          let all = c.put_parts.ensures.goes_on One 1 card format hs in
          let by_ports = subst (λ (n : ℕ). AreHeld One 1 card format n hs (told c.args.files.now) c.args.sinks.now → AllGoOn One 1 card format n (hs ++ h ∷ []) (told c.put_parts.new.files) c.put_parts.new.sinks c.put_parts.result) (c.len.ensures.value ∙ ap (λ (f : Func). length f.handlers) c.func.ensures)
          (subst (λ (x : Handled). AreHeld One 1 card format c.len.result hs (told c.args.files.now) c.args.sinks.now → AllGoOn One 1 card format c.len.result (hs ++ x ∷ []) (told c.put_parts.new.files) c.put_parts.new.sinks c.put_parts.result) handled_is all) in
          by_ports held;
    }

pub returns-clause-wrote : goal.returns-clause-wrote
returns-clause-wrote g c = record { kept = c.put_parts.ensures.kept; cause = c.put_parts.ensures.cause; among = c.put_parts.ensures.among }
