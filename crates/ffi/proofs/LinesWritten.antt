-- Where lines are not written for another reason than their own, they have no fault.
use Rattle.std.proofs.Common.{◌≡◌, ℕ, ◌+◌, ◌∙◌, List, [], ◌∷◌, Some, None, Result, Ok, Err, refl, sym, ap, subst}
use Rattle.std.specs.Prelude.{IfErr}
use Rattle.std.specs.Str.Lines.{lines}
use Rattle.captures.specs.Capture.{capture_of_lines, capture_of_text, capture_or_fault}
use Rattle.captures.specs.Line.{line_of}
use Rattle.captures.specs.Lines.{before, form_of, lines_from, lines_of, with_line}
use Rattle.captures.specs.declared.line_fault.LinesFault.{LinesFault}
use Rattle.captures.specs.declared.line_fault.LinesFault.TheVariants.{Write}
use Rattle.captures.specs.declared.line_settings.Settings.{Settings}

module _ (settings : Settings) (form : _) where
  -- What is wrong with lines is no failure of a writer.
  never_write : (number : ℕ) (ls : List (List ℕ)) → lines_from settings form number ls ≡ Err Write → ⊥
  never_write number [] is = cc
  never_write number (l ∷ ls) is =
      (elim (line_of settings form l)
      as (λ one. with_line number one (lines_from settings form (number + 1) ls) ≡ Err Write → ⊥) [
        | Err why ↦ λ is. cc
        | Ok said ↦
            elim said
            as (λ said. with_line number (Ok said) (lines_from settings form (number + 1) ls) ≡ Err Write → ⊥) [
              | None ↦ never_write (number + 1) ls
              | Some line ↦
                  (elim (lines_from settings form (number + 1) ls)
                  as (λ rest. (rest ≡ Err Write → ⊥) → before line rest ≡ Err Write → ⊥) [
                    | Ok more ↦ λ never is. cc
                    | Err why ↦ λ never is. never is
                  ]) (never_write (number + 1) ls)
            ]
      ]) is

module _ (settings : Settings) (text : List ℕ) (result : Result (Unit {0}) LinesFault) (writes : result ≡ Err Write) where
  -- So the lines have a capture.
  pub has_capture : IfErr (capture_of_text settings text) (λ fault. result ≡ Err fault)
      → (capture : List ℕ) × (capture_of_text settings text ≡ Ok capture)
  has_capture says =
      (elim (lines_of settings text)
      as (λ o. lines_of settings text ≡ o → (capture : List ℕ) × (capture_of_text settings text ≡ Ok capture)) [
        | Ok ls ↦ λ is. (capture_of_lines settings ls, ap (capture_or_fault settings) is)
        | Err why ↦ λ is.
            let own : result ≡ Err why =
            subst (λ o. IfErr (capture_or_fault settings o) (λ fault. result ≡ Err fault)) is says in
            let same : why ≡ Write = let both = sym own ∙ writes in cc in
            absurd (never_write settings (form_of settings.numbers (lines text)) 1 (lines text) (is ∙ ap Err same))
      ]) refl
