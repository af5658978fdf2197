use Rattle.std.proofs.Common.{rules, ◌≡◌, ◌≢◌, ap, ◌∙◌}
use Rattle.std.proofs.lemmas.Iterator.{YieldsList-from_slice, first_from_find}
use Rattle.std.proofs.lemmas.Iterator.Consumers.{YieldsList-from_copied}
use Rattle.text.specs.Names.{name}
use Rattle.text.proofs.Mnemonics.{every, none_missed}
use Rattle.text.proofs.mnemonic.Mnemonic.named.Goals as goal

pub returns : goal.returns
returns c =
    let s = c.args.name.now in
    none_missed s c.find.result (first_from_find _ _ c.find.result (λ m. name m ≡ s) (λ m. name m ≢ s) c.find.ensures.ran (YieldsList-from_copied (YieldsList-from_slice every (ap (λ i. i.rest.now) c.copied.ensures.source ∙ c.iter.ensures.rest))) (λ x q k. search (rules, k)) (λ x q k. search (rules, k)))
