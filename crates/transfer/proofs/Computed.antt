-- What these transfers and packets make is computed from the definitions. It rests on no law, so that an error in a definition shows here and not in the
-- words of a proof that no longer fits. Assumes nothing.
use mathlib.Core.Path.{refl}
use Rattle.usb.specs.Decode.{decode_answer}
use Rattle.transfer.specs.Builder.{append_answer, append_output, used_after}
use Rattle.transfer.specs.Computed.{AppendedTold, PacketsAppended, TransfersWalked, WalkedTold}
use Rattle.transfer.specs.Walk.{walk, walk_answer}

pub transfers_walked : TransfersWalked
unfolding walk walk_answer decode_answer
transfers_walked = (refl, refl, refl, refl)

pub packets_appended : PacketsAppended
unfolding append_answer append_output used_after
packets_appended = (refl, refl, refl, refl, refl, refl, refl, refl, refl, refl)

pub appended_told : AppendedTold
appended_told = (refl, refl, refl)

pub walked_told : WalkedTold
walked_told = (λ n. refl, refl, refl)
