-- That a prefix of the image was written is said of what is asked for, by a lemma.
use Rattle.log_commands.proofs.Generated.{image_cut}
use Rattle.log_commands.proofs.generating.make.Goals as goal

pub returns-in-Image-clause-cut : goal.returns-in-Image-clause-cut
returns-in-Image-clause-cut g c =
    image_cut c.args.asked.now c.args.program.now c.args.asked.now.product c.args.mix c.args.image.now
    (g.O.Write.contents c.args.out.now) (g.O.Write.contents c.write_image.new.out) c.in-Image.is c.requires.image
    c.write_image.ensures.begun
