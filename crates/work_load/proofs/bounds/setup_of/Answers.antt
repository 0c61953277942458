use Rattle.std.proofs.Common.{◌≡◌, List, ℕ, None, rules, ap, ◌∙◌}
use Rattle.tact_base.specs.declared.setup.ConfigFault.TheVariants.{NoMemory}
use Rattle.tact_base.specs.Setup.{config_fault}
use Rattle.work_load.specs.Bounds.{alphas_of, loans_of}
use Rattle.work_load.proofs.SetupOf.{IsSetup-of, memory-from_refusal}
use Rattle.work_load.proofs.bounds.setup_of.Goals as goal

pub unreachable-requires : goal.unreachable-requires
unreachable-requires c =
    let replicas = c.args.replicas in
    let conits = c.args.conits in
    let bounds = c.args.bounds.now in
    let alphas : c.items.result.now ≡ alphas_of replicas conits bounds = c.items.ensures ∙ c.in_ok-alphas.ensures in
    let loans : c.items-2.result.now ≡ loans_of replicas conits bounds = c.items-2.ensures ∙ c.in_ok-loans.ensures in
    let none : config_fault replicas conits c.items.result.now c.items-2.result.now ≡ None =
    ap (λ (list : List ℕ). config_fault replicas conits list c.items-2.result.now) alphas
    ∙ ap (λ (list : List ℕ). config_fault replicas conits (alphas_of replicas conits bounds) list) loans
    ∙ IsSetup-of replicas conits bounds c.requires.least c.requires.few_replicas c.requires.conits c.requires.few_conits c.requires.bounds in
    let memory : c.in-Err.field-0 ≡ NoMemory = memory-from_refusal _ c.in-Err.field-0 none c.in-Err.ensures in
    search rules
