use Rattle.pcap_file.proofs.Spelling.{is_written}
use Rattle.pcap_file.proofs.laws.what_is_written_is_read.Goals as goal

pub returns : goal.returns
returns c = λ rs left fits lt. is_written rs left fits lt
