use Rattle.wf_access.proofs.MappingLemmas.{answers_keep_mappings, last_looks_keep_mappings, stores_keep_mappings}
use Rattle.wf_access.proofs.laws.accesses_keep_mappings.Goals as goal

pub returns-clause-stores : goal.returns-clause-stores
returns-clause-stores c = stores_keep_mappings

pub returns-clause-last_looks : goal.returns-clause-last_looks
returns-clause-last_looks c = last_looks_keep_mappings

pub returns-clause-answers : goal.returns-clause-answers
returns-clause-answers c = answers_keep_mappings
