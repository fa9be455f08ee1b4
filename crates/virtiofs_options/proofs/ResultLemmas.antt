-- What the program's words come to.
use Rattle.std.proofs.Common.{◌≡◌, ℕ, List, Result, Ok, Err, IfErr, Bor, inr, subst}
use Rattle.std.specs.Global.{Global}
use Rattle.virtiofs_options.proofs.GuestsLemmas.{WrongOnly-map}
use Rattle.virtiofs_options.specs.Parts.{WrongOnly}
use Rattle.virtiofs_options.specs.Words.{AreFrontWords, IsFront, IsAudit, IsAuditFault, AreWords, AreWrongWords, rest_of}
use Rattle.virtiofs_options.specs.declared.fault.ReadError.{ReadError}
use Rattle.virtiofs_options.specs.declared.front.Asked.{Asked}
use Rattle.virtiofs_options.specs.declared.guest.Guest.{Guest}
use Rattle.virtiofs_options.specs.declared.options.Options.{Options}
use Rattle.virtiofs_options.specs.declared.values.Values.{Values}
use Rattle.virtiofs_options.specs.declared.command.Word.{Word}
use Rattle.virtiofs_options.specs.declared.words.Front.TheVariants.{Audit}
use Rattle.virtiofs_options.specs.declared.words.Words.{Words}
use Rattle.virtiofs_options.specs.declared.words.Words.TheVariants as words_are

pub audit-right : (own of_daemon : Options) (words : List (Bor (List ℕ))) (front : List Word) (asked : Asked) (values : Values)
    (first : Guest Global) (it : Words) → AreFrontWords of_daemon words front → IsFront own front (Audit asked values first)
    → IsAudit of_daemon asked values first (rest_of words) it → AreWords own of_daemon words it
audit-right own of_daemon words front asked values first (words_are.Tell telling) are is audit = absurd audit
audit-right own of_daemon words front asked values first (words_are.Audit asked_for all read) are is (same, these, guests) =
    (front, asked, values, first, are, is, (same, these, guests))

-- what is wrong with what stands after the first `--`
pub audit-wrong : (own of_daemon : Options) (words : List (Bor (List ℕ))) (front : List Word) (rest : List (Bor (List ℕ))) (asked : Asked) (values : Values)
    (first : Guest Global) (r : Result Words ReadError) → AreFrontWords of_daemon words front
    → IsFront own front (Audit asked values first) → rest ≡ rest_of words
    → IfErr r (WrongOnly (IsAuditFault of_daemon asked values first rest)) → IfErr r (WrongOnly (AreWrongWords own of_daemon words))
audit-wrong own of_daemon words front rest asked values first (Ok it) are is rest_is wrong = tt
audit-wrong own of_daemon words front rest asked values first (Err error) are is rest_is wrong =
    WrongOnly-map (IsAuditFault of_daemon asked values first rest) (AreWrongWords own of_daemon words) error
    (λ fault it. inr (
      front,
      asked,
      values,
      first,
      are,
      is,
      subst (λ (l : List (Bor (List ℕ))). IsAuditFault of_daemon asked values first l fault) rest_is it,
    )) wrong
