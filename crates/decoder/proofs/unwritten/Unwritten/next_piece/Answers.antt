-- What is taken of two lists one after the other is a lemma about lists.
use Rattle.std.proofs.Common.{refl}
use Rattle.decoder.proofs.HandsOut.{taken_both, left_both}
use Rattle.decoder.proofs.unwritten.Unwritten.next_piece.Goals as goal

pub returns-clause-appended : goal.returns-clause-appended
returns-clause-appended g c =
    let one = c.after-self-inside.new.piece in
    taken_both _ _ _ _ _ _ _ _ _ c.args.piece.now.items one.items c.self.view_is refl refl c.args.piece.now.ok.0
    one.ok.0 c.after-self-inside.ensures.room c.after-self-inside.ensures.appended _
    c.after-self-inside-2.ensures.appended

pub returns-clause-left : goal.returns-clause-left
returns-clause-left g c =
    let one = c.after-self-inside.new.piece in
    left_both _ _ _ _ _ _ _ _ _ c.args.piece.now.items one.items c.self.view_is refl refl c.args.piece.now.ok.0
    one.ok.0 c.after-self-inside.ensures.room c.after-self-inside.ensures.appended _ _
    c.after-self-inside.ensures.left c.after-self-inside-2.ensures.left
