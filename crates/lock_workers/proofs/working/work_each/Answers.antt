use Rattle.std.proofs.Common.{rules, ◌≡◌, [], ◌∷◌, List, length, slice_index_or, ap, sym, ◌∙◌, subst, arith}
use mir.Syntax.{named}
use denote.Array.{Array}
use denote.Struct.Tuple.{TupleAt}
use denote.Struct.Field.{bool-field}
use denote.Param.{param}
use denote.Param.Send.{param_send, param_sync, shr_slice_sync}
use Rattle.lock_workers.proofs.Crossing.{seat_send, shared_sync, packet_sync, places_sync}
use Rattle.nf_base.specs.contracts.packet.Packet as packet
use Rattle.lock_core.specs.contracts.call.Entry as entry
use Rattle.lock_mode.specs.contracts.table_copy.TableCopyAbsorbOp.TheImpl as side_impl
use Rattle.lock_mode.specs.contracts.rule.RisingProtocolTableCopyU64.TheImpl as rule_impl
use Rattle.lock_mode.specs.Seats.{SeatState}
use Rattle.lock_workers.specs.Working.{HasWorked, AllHaveWorked}
use Rattle.lock_workers.proofs.Joined.{all_worked, all_of}
use Rattle.lock_workers.proofs.working.work_each.Lts.{arg-1-1, arg-1-2}
use Rattle.lock_workers.proofs.working.work_each.Goals as goal

pub for_each_mut-requires-send-T : goal.for_each_mut-requires-send-T
for_each_mut-requires-send-T g c κs within =
    param_send 1 (arg-1-1 g.row.J g.row.R g.row.G g.row.T g.J.laws g.R.laws g.G.laws g.T.laws g.J.Naming g.J.Naming-dict g.R.Threads g.R.Threads-dict g.R.Wait g.R.Wait-dict g.G.Gate g.G.Gate-dict g.T.Turns g.T.Turns-dict g.G.Destruct-dict κs)
    (let s = seat_send (param 0 g.row.J) g.J.Naming (param 2 g.row.G) g.G.Gate c.type_bounds.send-G in
    record { owned = λ d vs. s.owned d vs; leaving = λ k d w. s.leaving k d w })

pub for_each_mut-requires-sync-F : goal.for_each_mut-requires-sync-F
for_each_mut-requires-sync-F g c κs within =
    param_sync 2 (arg-1-2 g.row.J g.row.R g.row.G g.row.T g.J.laws g.R.laws g.G.laws g.T.laws g.J.Naming g.J.Naming-dict g.R.Threads g.R.Threads-dict g.R.Wait g.R.Wait-dict g.G.Gate g.G.Gate-dict g.T.Turns g.T.Turns-dict g.G.Destruct-dict κs)
    (let J = param 0 g.row.J in
    let S = TupleAt (40 ∷ 44 ∷ 41 ∷ []) (Array entry.the_row 0 ∷ bool-field.row ∷ []) in
    let ss = shared_sync J g.J.Naming S (side_impl.ghosts J g.J.Naming side_impl.no_dict) (rule_impl.ghosts J g.J.Naming rule_impl.no_dict) in
    record {
      shared = λ x b o κ. (
        (
          ((λ q. tt), c.type_bounds.sync-R.shared x.0.now x.0.ref_ptr.0 x.0.ref_ptr.1 κs.1.1.1.1.1.1.0),
          (
            ((λ q. tt), ss.shared x.1.now x.1.ref_ptr.0 x.1.ref_ptr.1 κs.1.1.1.1.1.1.1.0),
            (
              (shr_slice_sync (named 8) κs.1.1.1.1.1.1.1.1.0 packet.the_row packet_sync).shared x.2 b o κ,
              (
                ((λ q. tt), places_sync.shared x.3.now x.3.ref_ptr.0 x.3.ref_ptr.1 κs.1.1.1.1.1.1.1.1.1.0),
                (((λ q. tt), c.type_bounds.sync-T.shared x.4.now x.4.ref_ptr.0 x.4.ref_ptr.1 κs.1.1.1.1.1.1.1.1.1.1.0), tt),
              ),
            ),
          ),
        ),
        λ q. tt,
      );
    })

pub returns : goal.returns
returns g c =
    let packets = c.args.packets.now in
    let own = c.args.own.now in
    let same : length c.for_each_mut.new.s ≡ length c.args.seats.now.items = c.for_each_mut.auto.s ∙ ap (λ (xs : List SeatState). length xs) c.as_mut_slice.ensures.value in
    subst (AllHaveWorked packets own c.args.seats.now.items) (sym (all_of c.args.seats.now.len c.for_each_mut.new.s _ (sym c.as_mut_slice.ensures.len ∙ sym c.for_each_mut.auto.s)))
    (all_worked packets own c.args.seats.now.items c.for_each_mut.new.s same (λ i d lt.
    let r = (c.for_each_mut.ensures i d (let e = ap (λ (xs : List SeatState). length xs) c.as_mut_slice.ensures.value in omega (arith, lt, e))).1 in
    let called = r.call in
    subst (λ (z : SeatState). HasWorked packets (slice_index_or own i []) z (slice_index_or c.for_each_mut.new.s i d)) (r.argument_is ∙ ap (λ (xs : List SeatState). slice_index_or xs i d) c.as_mut_slice.ensures.value)
    (subst (λ (z : SeatState). HasWorked packets (slice_index_or own i []) r.argument.now z) r.left (search (rules, called)))))
