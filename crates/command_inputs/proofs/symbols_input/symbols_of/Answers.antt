-- The prover tries no record of its own: what was read, and the symbols that it has, are handed to it.
use Rattle.std.proofs.Common.{◌≡◌, ◌⊎◌, subst, sym, Ok, Err, Some, arith}
use Rattle.std.proofs.lemmas.Grind.{common_steps}
use Rattle.command_inputs.specs.declared.fault.Fault.TheVariants as fault
use Rattle.command_inputs.specs.Symbols.{AreSymbols}
use Rattle.command_inputs.proofs.SymbolsFound.{symbols_made, symbols_refused, symbols_unread}
use Rattle.command_inputs.proofs.symbols_input.symbols_of.Goals as goal

pub returns-in-Err-clause-fault : goal.returns-in-Err-clause-fault
returns-in-Err-clause-fault g c =
    let content = g.F.Files.content c.args.files.now in
    let why = c.in-Err.why in
    let is : c.args.path ≡ Some c.in-Some.path = grind (arith, common_steps) in
    subst (λ path. (why ≡ fault.Memory) ⊎ AreSymbols content path (Err why)) (sym is)
    (symbols_unread content c.in-Some.path why c.in-Err.ensures.lacked)

pub returns-in-Ok-new-clause-symbols : goal.returns-in-Ok-new-clause-symbols
returns-in-Ok-new-clause-symbols g c =
    let content = g.F.Files.content c.args.files.now in
    let file = c.in-Ok-new.symbols in
    let is : c.args.path ≡ Some c.in-Some.path = grind (arith, common_steps) in
    subst (λ path. AreSymbols content path (Ok (Some file))) (sym is)
    (symbols_made content c.in-Some.path c.in-Ok.bytes.items c.in-Ok.ensures.held file c.in-Ok-new.ensures.value)

pub returns-in-Err-new-clause-fault : goal.returns-in-Err-new-clause-fault
returns-in-Err-new-clause-fault g c =
    let content = g.F.Files.content c.args.files.now in
    let is : c.args.path ≡ Some c.in-Some.path = grind (arith, common_steps) in
    subst (λ path. (c.of_symbols.result ≡ fault.Memory) ⊎ AreSymbols content path (Err c.of_symbols.result))
    (sym is)
    (subst (λ why. (why ≡ fault.Memory) ⊎ AreSymbols content (Some c.in-Some.path) (Err why))
    (sym c.of_symbols.ensures)
    (symbols_refused content c.in-Some.path c.in-Ok.bytes.items c.in-Ok.ensures.held c.in-Err-new.why
    c.in-Err-new.ensures.value))
