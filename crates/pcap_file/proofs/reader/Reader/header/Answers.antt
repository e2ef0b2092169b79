use Rattle.pcap_file.proofs.Growing.{takes_same, cause_same}
use Rattle.pcap_file.proofs.reader.Reader.header.Goals as goal

pub returns-in-Ok-clause-takes : goal.returns-in-Ok-clause-takes
returns-in-Ok-clause-takes g c =
    let told = g.F.Files.told in
    takes_same ((told c.args.files.now).rest c.args.file) ((told c.begin.new.files).rest c.args.file) c.of.result c.in-Ok.ensures.takes c.of.ensures.err

pub returns-in-Ok-clause-cause : goal.returns-in-Ok-clause-cause
returns-in-Ok-clause-cause g c =
    let counted = g.F.Files.counted in
    cause_same (counted c.args.files.now) (counted c.begin.new.files) c.args.file c.of.result c.in-Ok.ensures.cause c.of.ensures.err
