use Rattle.std.proofs.Common.{◌∙◌, ◌+◌, sym, ap, subst, arith}
use Rattle.std.specs.List.{slice_get}
use Rattle.packet_feed.specs.Feeding.{Feeding, last_at}
use Rattle.packet_feed.specs.Sources.{SourcesStand, files_in, sixes_in, AreFrom}
use Rattle.packet_feed.proofs.Nexts.{settled_but, next_stands, next_shown, next_files, next_sixes, next_feeding, has_more_at, are_all, are_torn}
use Rattle.packet_feed.proofs.Times.{gives_from}
use Rattle.packet_feed.proofs.feed.Feed.advance.Goals as goal

pub returns-then-self-clause-feeds : goal.returns-then-self-clause-feeds
returns-then-self-clause-feeds g c = λ start given h.
    let told = g.F.Files.told in
    let ok = c.in_ok-fill_next.ensures in
    let before : SourcesStand start given c.self.inside.sources (told c.args.files.now) = subst (λ (v : Feeding). SourcesStand start given v.sources (told c.args.files.now)) (sym c.self.view_is) h.sources in
    let stands = ok.stand start given before in (
      record { count = h.count ∙ ap (λ (v : Feeding). v.given) (sym c.self.view_is); sources = stands },
      has_more_at start given (told c.fill_next.new.files) c.fill_next.new.sources c.in-Some.first ok.settled c.in-Some.ensures stands,
    )

pub invariant_of-self-in-Some : goal.invariant_of-self-in-Some
invariant_of-self-in-Some g c = (
  next_feeding c.in-Some.first.port (last_at c.in-Some.first.port (slice_get c.pass.new.sources c.in-Some.first.port)) c.self.inside.sources c.fill_next.new.sources c.pass.new.sources c.self.inside.given c.self.inside.most c.pass.ensures (omega (arith, c.if-self.false)) c.fill_next.ensures.same_files c.fill_next.ensures.same_counts c.self.invariant.0,
  λ is. settled_but c.in-Some.first.port (last_at c.in-Some.first.port (slice_get c.pass.new.sources c.in-Some.first.port)) c.fill_next.new.sources c.pass.new.sources c.pass.ensures c.in_ok-fill_next.ensures.settled,
)

pub returns-in-None-clause-feeds : goal.returns-in-None-clause-feeds
returns-in-None-clause-feeds g c = λ start given h.
    let told = g.F.Files.told in
    let ok = c.in_ok-fill_next.ensures in
    let before : SourcesStand start given c.self.inside.sources (told c.args.files.now) = subst (λ (v : Feeding). SourcesStand start given v.sources (told c.args.files.now)) (sym c.self.view_is) h.sources in
    let stands = ok.stand start given before in (
      record { count = h.count ∙ ap (λ (v : Feeding). v.given) (sym c.self.view_is); sources = stands },
      are_all start given (told c.fill_next.new.files) c.fill_next.new.sources ok.settled c.in-None.ensures stands,
      are_torn start given (told c.fill_next.new.files) c.fill_next.new.sources ok.settled c.in-None.ensures stands,
    )

pub returns-else-self-clause-feeds : goal.returns-else-self-clause-feeds
returns-else-self-clause-feeds g c = λ start given h.
    let told = g.F.Files.told in
    let ok = c.in_ok-fill_next.ensures in
    let before : SourcesStand start given c.self.inside.sources (told c.args.files.now) = subst (λ (v : Feeding). SourcesStand start given v.sources (told c.args.files.now)) (sym c.self.view_is) h.sources in
    next_stands start given (told c.fill_next.new.files) c.in-Some.first.port c.in-Some.first.time c.self.inside.given c.self.inside.most (last_at c.in-Some.first.port (slice_get c.pass.new.sources c.in-Some.first.port)) c.fill_next.new.sources c.pass.new.sources c.pass.ensures ok.settled c.in-Some.ensures
    (h.count ∙ ap (λ (v : Feeding). v.given) (sym c.self.view_is)) (ok.stand start given before)

pub returns-else-self-clause-counts : goal.returns-else-self-clause-counts
returns-else-self-clause-counts g c =
    let given = ap (λ (v : Feeding). v.given) c.self.view_is in
    let most = ap (λ (v : Feeding). v.most) c.self.view_is in
    (omega arith, omega (arith, c.if-self.false), next_shown c.in-Some.first.port (c.self.inside.given + 1) c.self.inside.most (last_at c.in-Some.first.port (slice_get c.pass.new.sources c.in-Some.first.port)) c.fill_next.new.sources c.pass.new.sources c.pass.ensures)

pub returns-else-self-clause-same : goal.returns-else-self-clause-same
returns-else-self-clause-same g c =
    let given = last_at c.in-Some.first.port (slice_get c.pass.new.sources c.in-Some.first.port) in
    record {
      files = next_files c.in-Some.first.port given c.fill_next.new.sources c.pass.new.sources c.pass.ensures ∙ c.fill_next.ensures.same_files ∙ ap (λ (v : Feeding). files_in v.sources) c.self.view_is;
      six = next_sixes c.in-Some.first.port given c.fill_next.new.sources c.pass.new.sources c.pass.ensures ∙ c.fill_next.ensures.same_six ∙ ap (λ (v : Feeding). sixes_in v.sources) c.self.view_is;
      most = ap (λ (v : Feeding). v.most) c.self.view_is;
    }

pub returns-then-self-clause-times : goal.returns-then-self-clause-times
returns-then-self-clause-times g c = λ time h. c.in_ok-fill_next.ensures.later time (subst (λ (v : Feeding). AreFrom time v.sources) (sym c.self.view_is) h)

pub returns-in-None-clause-times : goal.returns-in-None-clause-times
returns-in-None-clause-times g c = λ time h. c.in_ok-fill_next.ensures.later time (subst (λ (v : Feeding). AreFrom time v.sources) (sym c.self.view_is) h)

pub returns-else-self-clause-times : goal.returns-else-self-clause-times
returns-else-self-clause-times g c = λ time h.
    gives_from time c.in-Some.first.port c.in-Some.first.time (last_at c.in-Some.first.port (slice_get c.pass.new.sources c.in-Some.first.port)) c.fill_next.new.sources c.pass.new.sources c.pass.ensures c.in_ok-fill_next.ensures.settled c.in-Some.ensures
    (c.in_ok-fill_next.ensures.later time (subst (λ (v : Feeding). AreFrom time v.sources) (sym c.self.view_is) h))
