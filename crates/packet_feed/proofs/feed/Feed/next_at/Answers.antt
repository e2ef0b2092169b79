use Rattle.std.proofs.Common.{◌∙◌, ◌<◌, ◌+◌, List, length, sym, ap, subst, arith}
use Rattle.packet_feed.specs.Streams.{Stream}
use Rattle.packet_feed.specs.Feeding.{Feeding}
use Rattle.packet_feed.specs.Told.{packets_of}
use Rattle.packet_feed.specs.Sources.{files_in, sixes_in}
use Rattle.packet_feed.specs.Ports.{SourcesStandByPort, AreAllOf}
use Rattle.packet_feed.proofs.Standing.{same_length}
use Rattle.packet_feed.proofs.Nexts.{next_shown, next_files, next_sixes, next_feeding}
use Rattle.packet_feed.proofs.ByPort.{next_by_port, same_port, all_of_port}
use Rattle.packet_feed.proofs.feed.Feed.next_at.Goals as goal

pub invariant_of-self-in-Some : goal.invariant_of-self-in-Some
invariant_of-self-in-Some g c =
    let given = ap (λ (v : Feeding). v.given) c.self.view_is in
    let most = ap (λ (v : Feeding). v.most) c.self.view_is in
    (next_feeding c.args.port c.in-Some.packet c.self.inside.sources c.fill_at.new.sources c.give_at.new.sources c.self.inside.given c.self.inside.most c.in-Some.ensures.0 (omega (arith, c.requires.room, given, most)) c.fill_at.ensures.same_files c.fill_at.ensures.same_counts c.self.invariant.0, λ is. absurd cc)

pub returns-in-None-clause-feeds : goal.returns-in-None-clause-feeds
returns-in-None-clause-feeds g c = λ start given h.
    let told = g.F.Files.told in
    let ok = c.in_ok-fill_at.ensures in
    let now = told c.fill_at.new.files in
    let before : SourcesStandByPort start given c.self.inside.sources (told c.args.files.now) = subst (λ (v : Feeding). SourcesStandByPort start given v.sources (told c.args.files.now)) (sym c.self.view_is) h.sources in
    let stands = ok.stand start given before in
    let same = c.in-None.ensures.0 in
    let inside : c.args.port < length c.fill_at.new.sources = omega (arith, c.requires.inside, same_length c.fill_at.new.sources c.self.inside.sources c.fill_at.ensures.same_files, ap (λ (v : Feeding). length v.sources) c.self.view_is) in (
      record {
        count = h.count ∙ ap (λ (v : Feeding). v.given) (sym c.self.view_is);
        sources = subst (λ (xs : List Stream). SourcesStandByPort start given xs now) (sym same) stands;
      },
      subst (λ (xs : List Stream). AreAllOf c.args.port (packets_of (sixes_in xs) (files_in xs) start) given) (sym same)
          (all_of_port start given c.fill_at.new.sources now c.args.port inside ok.settled c.in-None.ensures.1 stands),
    )

pub returns-in-Some-clause-feeds : goal.returns-in-Some-clause-feeds
returns-in-Some-clause-feeds g c = λ start given h.
    let told = g.F.Files.told in
    let ok = c.in_ok-fill_at.ensures in
    let before : SourcesStandByPort start given c.self.inside.sources (told c.args.files.now) = subst (λ (v : Feeding). SourcesStandByPort start given v.sources (told c.args.files.now)) (sym c.self.view_is) h.sources in
    next_by_port start given (told c.fill_at.new.files) c.args.port c.self.inside.given c.self.inside.most c.in-Some.packet c.fill_at.new.sources c.give_at.new.sources c.in-Some.ensures.0 c.in-Some.ensures.1
    (h.count ∙ ap (λ (v : Feeding). v.given) (sym c.self.view_is)) (ok.stand start given before)

pub returns-in-Some-clause-counts : goal.returns-in-Some-clause-counts
returns-in-Some-clause-counts g c =
    let given = ap (λ (v : Feeding). v.given) c.self.view_is in
    (omega arith, same_port c.args.port c.in-Some.packet c.fill_at.new.sources c.give_at.new.sources c.in-Some.ensures.0, next_shown c.args.port (c.self.inside.given + 1) c.self.inside.most c.in-Some.packet c.fill_at.new.sources c.give_at.new.sources c.in-Some.ensures.0)

pub returns-in-Some-clause-same : goal.returns-in-Some-clause-same
returns-in-Some-clause-same g c = record {
  files = next_files c.args.port c.in-Some.packet c.fill_at.new.sources c.give_at.new.sources c.in-Some.ensures.0 ∙ c.fill_at.ensures.same_files ∙ ap (λ (v : Feeding). files_in v.sources) c.self.view_is;
  six = next_sixes c.args.port c.in-Some.packet c.fill_at.new.sources c.give_at.new.sources c.in-Some.ensures.0 ∙ c.fill_at.ensures.same_six ∙ ap (λ (v : Feeding). sixes_in v.sources) c.self.view_is;
  most = ap (λ (v : Feeding). v.most) c.self.view_is;
}
