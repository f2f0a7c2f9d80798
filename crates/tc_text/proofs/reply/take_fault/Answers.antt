use Rattle.std.proofs.Common.{◌≡◌, ◌≢◌, ◌∙◌, sym, ℕ, List, ◌++◌, codes}
use Rattle.tc_entry.specs.{declared.reply.Fault.Fault, Prelude.fault_name}
use Rattle.tc_text.proofs.reply.take_fault.Goals as goal

-- no name of a dynamic error begins the text
no_fault : (f : Fault) (text rest : List ℕ)
    → ((r : List ℕ) → text ≢ codes "no-component" ++ r)
    → ((r : List ℕ) → text ≢ codes "not-main" ++ r)
    → ((r : List ℕ) → text ≢ codes "start-main" ++ r)
    → ((r : List ℕ) → text ≢ codes "already-running" ++ r)
    → ((r : List ℕ) → text ≢ codes "not-startable" ++ r)
    → ((r : List ℕ) → text ≢ codes "no-behaviour" ++ r)
    → ((r : List ℕ) → text ≢ codes "too-many" ++ r)
    → ((r : List ℕ) → text ≢ codes "stuck" ++ r)
    → text ≡ fault_name f ++ rest → ⊥
no_fault Fault.NoComponent text rest a b c d g h i j e = a rest e
no_fault Fault.NotMain text rest a b c d g h i j e = b rest e
no_fault Fault.StartMain text rest a b c d g h i j e = c rest e
no_fault Fault.AlreadyRunning text rest a b c d g h i j e = d rest e
no_fault Fault.NotStartable text rest a b c d g h i j e = g rest e
no_fault Fault.NoBehaviour text rest a b c d g h i j e = h rest e
no_fault Fault.TooMany text rest a b c d g h i j e = i rest e
no_fault Fault.Stuck text rest a b c d g h i j e = j rest e

pub returns-in_default-after-7-clause-only : goal.returns-in_default-after-7-clause-only
returns-in_default-after-7-clause-only c f rest e =
    let whole : c.in_ok-text.text.now ≡ fault_name f ++ rest = (let both = sym c.in_ok-text.ensures ∙ e in cc) in
    no_fault f c.in_ok-text.text.now rest c.in_default.ensures c.in_default-after.ensures c.in_default-after-2.ensures c.in_default-after-3.ensures
    c.in_default-after-4.ensures c.in_default-after-5.ensures c.in_default-after-6.ensures c.in_default-after-7.ensures whole
