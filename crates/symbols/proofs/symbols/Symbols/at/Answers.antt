-- What is found among the entries in order is a lemma about the file.
use Rattle.symbols.proofs.FileLemmas.{lies_within, none_named, some_named}
use Rattle.symbols.proofs.symbols.Symbols.at.Goals as goal

pub name_of-name-requires : goal.name_of-name-requires
name_of-name-requires g c =
    lies_within c.self.inside.file.items c.as_slice-file.result.now c.self.inside.entries.items
    c.as_slice-entries.result.now c.args.place c.in-Some.entry c.self.invariant c.as_slice-entries.ensures.value
    c.in-Some.ensures c.as_slice-file.ensures.value

pub returns-in-Some : goal.returns-in-Some
returns-in-Some g c =
    rw (← c.self.view_is)
    (some_named c.self.inside.file.items c.as_slice-file.result.now c.self.inside.entries.items
    c.as_slice-entries.result.now c.args.place c.in-Some.entry c.name_of-name.result.now c.self.invariant
    c.as_slice-entries.ensures.value c.in-Some.ensures c.as_slice-file.ensures.value c.name_of-name.ensures)

pub returns-in-None : goal.returns-in-None
returns-in-None g c =
    rw (← c.self.view_is)
    (none_named c.self.inside.file.items c.self.inside.entries.items c.as_slice-entries.result.now c.args.place
    c.self.invariant c.as_slice-entries.ensures.value c.in-None.ensures)
