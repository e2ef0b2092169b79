-- A frame into which nothing is edited stays as it is.
use Rattle.std.proofs.Common.{◌≡◌, ℕ, Bool, true, false, cond, List}
use Rattle.nf_base.specs.declared.done.Edits.{Edits}
use Rattle.frame_ip.specs.Frame.{is_four}
use Rattle.frame_ip.specs.Writes.{Write, put_all, IsUnedited}
use Rattle.frame_ip.specs.Edit.{edited}
use Rattle.frame_ip.specs.FourEdit as four
use Rattle.frame_ip.specs.SixEdit as six
use Rattle.frame_ip.proofs.Ones.{AreBytes}
use Rattle.frame_ip.proofs.FourUnedited as in_four
use Rattle.frame_ip.proofs.SixUnedited as in_six

four_none : (e : Edits) (f : List ℕ) → AreBytes f → IsUnedited e → put_all (four.writes e f) f ≡ f
unfolding four.edited
four_none e f bytes none = in_four.edited_none e f none (in_four.ip_none e f bytes none) (in_four.transport_none e f bytes none)

six_none : (e : Edits) (f : List ℕ) → AreBytes f → IsUnedited e → put_all (six.writes e f) f ≡ f
unfolding six.edited
six_none e f bytes none = in_six.edited_none e f none (in_six.transport_none e f bytes none)

by_family : (b : Bool) (f : List ℕ) (v w : List Write) → put_all v f ≡ f → put_all w f ≡ f → put_all (cond b v w) f ≡ f
by_family true f v w p q = p
by_family false f v w p q = q

pub edited_none : (e : Edits) (f : List ℕ) → AreBytes f → IsUnedited e → edited e f ≡ f
unfolding edited
edited_none e f bytes none = by_family (is_four f) f (four.writes e f) (six.writes e f) (four_none e f bytes none) (six_none e f bytes none)
