-- That the settings are the bytes that were read: by a lemma on lists of five.
use Rattle.std.proofs.Common.{◌≡◌, slice_index, rules, arith}
use Rattle.message.specs.Header.{mode_byte}
use Rattle.message.specs.steps.Filling.{AreBytes}
use Rattle.message.proofs.SettingsRead.{settings_read}
use Rattle.message.proofs.header.header_of.Goals.{in-0, in-1}
use Rattle.message.proofs.header.header_of.Goals as goal

pub returns-clause-found : goal.returns-clause-found
returns-clause-found c =
    let bytes : AreBytes c.args.settings.now = λ i. omega (arith, c.type_inv.settings i) in
    let mode : mode_byte c.match-settings.mode ≡ slice_index c.args.settings.now 0 =
    (elim c.match-settings.branch [
      | in-0 w ↦ search rules
      | in-1 w ↦ search rules
    ]) in
    (search rules, settings_read c.args.settings.now _ c.requires bytes mode (search rules) (search rules))
