-- Where nothing is wrong with a statement, its blocks and what follows, nothing is wrong with any of them.
use Rattle.std.proofs.Common.{◌≡◌, List, ◌++◌, None}
use Rattle.nf_base.specs.declared.packet.Family.{Family}
use Rattle.nf_tree.specs.Tree.{Question, Creation, Block, Ask, Make}
use Rattle.nf_types.specs.declared.room.Room.{Room}
use Rattle.nf_types.specs.declared.objects.Objects.{Objects}
use Rattle.nf_types.specs.Faults.{first}
use Rattle.nf_types.specs.Variables.{Variable}
use Rattle.nf_types.specs.Counts.{behind, behind_question, behind_new}
use Rattle.nf_types.specs.Blocks.{bound, bound_by}
use Rattle.nf_types.specs.BlockFaults.{question_faults, creation_faults, block_faults}
use Rattle.nf_types.proofs.First.{front_none, back_none}

pub record AskIsFaultless (family : Family) (room : Room) (o : Objects) (xs : List Variable) (q : Question) (first_block other rest : Block) : Type 0 where
  pub question : first (question_faults family room o xs q) ≡ None
  pub hit : first (block_faults family (behind_question room q) o (bound_by o xs q) first_block) ≡ None
  pub miss : first (block_faults family (behind (behind_question room q) first_block) o xs other) ≡ None
  pub next : first (block_faults family (behind (behind (behind_question room q) first_block) other) o xs rest) ≡ None

pub ask_faultless : (family : Family) (room : Room) (o : Objects) (xs : List Variable) (q : Question) (hit miss next : Block) →
    first (block_faults family room o xs (Ask q hit miss next)) ≡ None → AskIsFaultless family room o xs q hit miss next
ask_faultless family room o xs q hit miss next e =
    let inner = behind_question room q in
    let f = question_faults family room o xs q in
    let h = block_faults family inner o (bound_by o xs q) hit in
    let m = block_faults family (behind inner hit) o xs miss in
    let n = block_faults family (behind (behind inner hit) miss) o xs next in
    let front = front_none (f ++ (h ++ m)) n e in
    let blocks = back_none f (h ++ m) front in
    record {
      question = front_none f (h ++ m) front;
      hit = front_none h m blocks;
      miss = back_none h m blocks;
      next = back_none (f ++ (h ++ m)) n e;
    }

pub record MakeIsFaultless (family : Family) (room : Room) (o : Objects) (xs : List Variable) (n : Creation) (first_block second third rest : Block) : Type 0 where
  pub creation : first (creation_faults family room o xs n) ≡ None
  pub made : first (block_faults family (behind_new room) o (bound o xs n.variable n.chain) first_block) ≡ None
  pub taken : first (block_faults family (behind (behind_new room) first_block) o xs second) ≡ None
  pub full : first (block_faults family (behind (behind (behind_new room) first_block) second) o xs third) ≡ None
  pub next : first (block_faults family (behind (behind (behind (behind_new room) first_block) second) third) o xs rest) ≡ None

pub make_faultless : (family : Family) (room : Room) (o : Objects) (xs : List Variable) (n : Creation) (made taken full next : Block) →
    first (block_faults family room o xs (Make n made taken full next)) ≡ None → MakeIsFaultless family room o xs n made taken full next
make_faultless family room o xs n made taken full next e =
    let inner = behind_new room in
    let c = creation_faults family room o xs n in
    let m = block_faults family inner o (bound o xs n.variable n.chain) made in
    let t = block_faults family (behind inner made) o xs taken in
    let f = block_faults family (behind (behind inner made) taken) o xs full in
    let rest = block_faults family (behind (behind (behind inner made) taken) full) o xs next in
    let front = front_none (c ++ (m ++ (t ++ f))) rest e in
    let blocks = back_none c (m ++ (t ++ f)) front in
    let others = back_none m (t ++ f) blocks in
    record {
      creation = front_none c (m ++ (t ++ f)) front;
      made = front_none m (t ++ f) blocks;
      taken = front_none t f others;
      full = back_none t f others;
      next = back_none (c ++ (m ++ (t ++ f))) rest e;
    }
