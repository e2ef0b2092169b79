-- Files that are read, and all else stays.
use Rattle.std.proofs.Common.{◌≡◌, ◌≢◌, ℕ, suc, List, [], ◌∷◌, ◌++◌, length, Some, Result, Ok, Err, inl, inr, sym, ap, ◌∙◌, subst}
use Rattle.std.specs.List.{All, slice_get}
use Rattle.std.proofs.Math.Seq.{take-append_seam, drop-append_seam}
use Rattle.std.proofs.lemmas.List.Elements.{All-take, All-drop, All-append, All-head, All-tail}
use Rattle.nf_files.specs.Told.{Told}
use Rattle.nf_files.specs.Reads.{Keeps}
use Rattle.packet_feed.specs.Told.{KeepsOthers}
use Rattle.packet_feed.specs.Feeding.{Feeding, StandsFor}
use Rattle.packet_feed.specs.Ports.{StandsByPort}
use Rattle.packet_feed.proofs.ByPort.{by_port_among}
use Rattle.packet_feed.specs.Arrivals.{Arrival}
use Rattle.packet_feed.specs.Streams.{Stream}
use Rattle.packet_feed.specs.Sources.{files_in}
use Rattle.packet_feed.proofs.Standing.{at_file, stands_among}
use Rattle.packet_feed.proofs.Standing as standing
use Rattle.stream_run.specs.declared.fault.RunFault.{RunFault}
use Rattle.stream_run.specs.declared.fault.RunFault.TheVariants.{File, Memory}
use Rattle.stream_run.specs.Writing.{StopsAt, StopsAmong}

pub all_left : (P : ℕ → Type 0) (xs ys : List ℕ) → All P (xs ++ ys) → All P xs
all_left P xs ys h = subst (All P) (take-append_seam xs ys) (All-take P (length xs) (xs ++ ys) h)

pub all_right : (P : ℕ → Type 0) (xs ys : List ℕ) → All P (xs ++ ys) → All P ys
all_right P xs ys h = subst (All P) (drop-append_seam xs ys) (All-drop P (length xs) (xs ++ ys) h)

-- one after the other
pub others_both : (files : List ℕ) (a b c : Told) → KeepsOthers files a b → KeepsOthers files b c → KeepsOthers files a c
others_both files a b c h k = record {
  rests = λ g others. k.rests g others ∙ h.rests g others;
  givens = λ g. k.givens g ∙ h.givens g;
  names = λ g. k.names g ∙ h.names g;
  kinds = λ g. k.kinds g ∙ h.kinds g;
  contents = λ n. k.contents n ∙ h.contents n;
  latest_same = λ n. k.latest_same n ∙ h.latest_same n;
  next_same = k.next_same ∙ h.next_same;
}

-- among more files
pub others_wider : (xs all : List ℕ) (a b : Told) → ((g : ℕ) → All (λ f. f ≢ g) all → All (λ f. f ≢ g) xs) → KeepsOthers xs a b → KeepsOthers all a b
others_wider xs all a b wide h = record { rests = λ g others. h.rests g (wide g others); givens = h.givens; names = h.names; kinds = h.kinds; contents = h.contents; latest_same = h.latest_same; next_same = h.next_same }

pub others_left : (xs ys : List ℕ) (a b : Told) → KeepsOthers xs a b → KeepsOthers (xs ++ ys) a b
others_left xs ys a b h = others_wider xs (xs ++ ys) a b (λ g. all_left (λ f. f ≢ g) xs ys) h

pub others_right : (xs ys : List ℕ) (a b : Told) → KeepsOthers ys a b → KeepsOthers (xs ++ ys) a b
others_right xs ys a b h = others_wider ys (xs ++ ys) a b (λ g. all_right (λ f. f ≢ g) xs ys) h

-- around a file between
pub others_around : (xs : List ℕ) (file : ℕ) (ys : List ℕ) (a b : Told) → KeepsOthers (xs ++ ys) a b → KeepsOthers (xs ++ file ∷ ys) a b
others_around xs file ys a b h = others_wider (xs ++ ys) (xs ++ file ∷ ys) a b (λ g all. rejoined (λ f. f ≢ g) (all_left (λ f. f ≢ g) xs (file ∷ ys) all) (All-tail (λ f. f ≢ g) file ys (all_right (λ f. f ≢ g) xs (file ∷ ys) all))) h
  where
    rejoined : (P : ℕ → Type 0) → All P xs → All P ys → All P (xs ++ ys)
    rejoined P h k = All-append P xs ys h k

pub others_outputs : (xs : List ℕ) (file : ℕ) (ys : List ℕ) (a b : Told) → KeepsOthers ys a b → KeepsOthers (xs ++ file ∷ ys) a b
others_outputs xs file ys a b h = others_wider ys (xs ++ file ∷ ys) a b (λ g all. All-tail (λ f. f ≢ g) file ys (all_right (λ f. f ≢ g) xs (file ∷ ys) all)) h

-- one file between
pub others_one : (xs : List ℕ) (file : ℕ) (ys : List ℕ) (a b : Told) → Keeps a b file → KeepsOthers (xs ++ file ∷ ys) a b
others_one xs file ys a b h = record {
  rests = λ g others. h.rests g (λ same. All-head (λ f. f ≢ g) file ys (all_right (λ f. f ≢ g) xs (file ∷ ys) others) (sym same));
  givens = h.givens;
  names = h.names;
  kinds = h.kinds;
  contents = h.contents;
  latest_same = h.latest_same;
  next_same = h.next_same;
}

-- ---- captures, while other files are read

pub stands_while : (start : Told) (given : List Arrival) (feed : Feeding) (old new : Told) → ((port f : ℕ) → slice_get (files_in feed.sources) port ≡ Some f → new.rest f ≡ old.rest f) → StandsFor start given feed old → StandsFor start given feed new
stands_while start given feed old new same h = record {
  count = h.count;
  sources = stands_among start given feed.sources old new (λ (port : ℕ) (s : Stream) e. same port s.reading.file (standing.file_at feed.sources port s e)) h.sources;
}

pub by_port_while : (start : Told) (given : List Arrival) (feed : Feeding) (old new : Told) → ((port f : ℕ) → slice_get (files_in feed.sources) port ≡ Some f → new.rest f ≡ old.rest f) → StandsByPort start given feed old → StandsByPort start given feed new
by_port_while start given feed old new same h = record {
  count = h.count;
  sources = by_port_among start given feed.sources old new (λ (port : ℕ) (s : Stream) e. same port s.reading.file (standing.file_at feed.sources port s e)) h.sources;
}

-- ---- which file failed

pub among_outputs : (T U : Type 0) (captures outputs : List ℕ) (stop : RunFault) → StopsAmong {T = T} [] outputs (Err stop) → StopsAmong {T = U} captures outputs (Err stop)
among_outputs T U captures outputs Memory h = tt
among_outputs T U captures outputs (File g) (inl none) = absurd (none_in none.0 g none.1)
  where
    none_in : (k f : ℕ) → slice_get [] k ≡ Some f → ⊥
    none_in k f e = cc
among_outputs T U captures outputs (File g) (inr one) = inr one

-- with the journal in front of the outputs
pub among_more : (T U : Type 0) (captures outputs : List ℕ) (file : ℕ) (stop : RunFault) → StopsAmong {T = T} captures outputs (Err stop) → StopsAmong {T = U} captures (file ∷ outputs) (Err stop)
among_more T U captures outputs file Memory h = tt
among_more T U captures outputs file (File g) (inl one) = inl one
among_more T U captures outputs file (File g) (inr one) = inr (suc one.0, one.1)

pub among_journal : (T U : Type 0) (captures outputs : List ℕ) (file : ℕ) (stop : RunFault) → StopsAt {T = T} file (Err stop) → StopsAmong {T = U} captures (file ∷ outputs) (Err stop)
among_journal T U captures outputs file Memory h = tt
among_journal T U captures outputs file (File g) h = inr (0, ap Some (sym h))

-- whatever comes of the outputs
pub among_any : (T : Type 0) (captures outputs : List ℕ) (file : ℕ) (r : Result T RunFault) → StopsAmong {T = T} [] outputs r → StopsAmong {T = T} captures (file ∷ outputs) r
among_any T captures outputs file (Ok x) h = tt
among_any T captures outputs file (Err stop) h = among_more T T captures outputs file stop (among_outputs T T captures outputs stop h)

-- where a call was stopped
pub among_of : {T : Type 0} (U : Type 0) (captures outputs : List ℕ) (r : Result T RunFault) (stop : RunFault) → r ≡ Err stop → StopsAmong {T = T} [] outputs r → StopsAmong {T = U} captures outputs (Err stop)
among_of U captures outputs (Ok x) stop e h = absurd cc
among_of {T = T} U captures outputs (Err s) stop e h = let same : s ≡ stop = cc in subst (λ (x : RunFault). StopsAmong {T = U} captures outputs (Err x)) same (among_outputs T U captures outputs s h)
