-- The last text of a session, and the answer to a bad line.
use Rattle.std.proofs.Common.{ℕ, ◌≡◌, ◌⊎◌, List, [], refl, sym, subst, append-nil, Option, None, Some}
use Rattle.std.specs.Io.KnownBytes.{Appends, Keeps}
use Rattle.nmgc_cli.specs.declared.status.Status.{Status}
use Rattle.nmgc_live.specs.{Refusals.WritesLast, Refusals.WritesRefusal, Refusals.refusal_status, Refusals.refusal_text, declared.refusal.Fault.Fault, declared.refusal.Refusal.Refusal}
use Rattle.nmgc_live.specs.declared.refusal.Refusal.TheVariants as no

pub keeps_self : (a : Option (List ℕ)) → Keeps a a
keeps_self None = tt
keeps_self (Some u) = refl

pub appends_none : (a : Option (List ℕ)) → Appends a a []
appends_none None = tt
appends_none (Some u) = sym (append-nil u)

-- a text was written for a refusal
pub writes_said : (before now : Option (List ℕ)) (refusal said : Refusal) (text : List ℕ) (result : Status) →
    (said ≡ refusal) ⊎ ((said ≡ no.NoMemory) × ((n : ℕ) × ((f : Fault) × (refusal ≡ no.Bad n f)))) →
    text ≡ refusal_text said → WritesLast before now text (refusal_status said) result → WritesRefusal before now refusal result
writes_said before now refusal said text result which same last =
    (said, which, subst (λ (l : List ℕ). WritesLast before now l (refusal_status said) result) same last)
